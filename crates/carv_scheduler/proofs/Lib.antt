-- The root of the crate's proofs: what several of them share.
pub mod Rules
