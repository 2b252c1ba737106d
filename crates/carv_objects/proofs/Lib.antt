-- What the proofs share.
pub mod Rules
