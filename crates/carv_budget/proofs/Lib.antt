-- What the proofs share.
pub mod Laws
