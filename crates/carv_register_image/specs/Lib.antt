-- The root of the crate's definitions. What a reader must believe: Image, the register image and what each step of its writing leaves. laws/ has the theorems on these.
pub mod Image
