-- What is proved of the definitions: Image, what the steps leave, and that the last leaves the image; ImageCases, the definitions written out.
pub mod Image
pub mod ImageCases
