-- The root of the crate's definitions. What a reader must believe, beside carv_objects_spec's: Answer, numbers and values of the code's answers; Refusal, the refusals' numbers; Area, what the bytes say and what an entry point ensures. laws/ serves the proofs.
pub mod Answer
pub mod Refusal
pub mod Area
pub mod Laws
