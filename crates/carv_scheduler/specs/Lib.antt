-- The root of the crate's definitions. What a reader must believe, beside carv_scheduler_spec's: Answer, numbers and values of the code's answers; Area, what the bytes
-- say and what an entry point ensures; Creating and Image, the register image. laws/ serves the proofs.
pub mod Answer
pub mod Area
pub mod Creating
pub mod Image
pub mod Laws
