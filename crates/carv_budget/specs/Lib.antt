-- The root of the crate's definitions. What a reader must believe: Account, document 01's accounts; Rust, the Rust's methods; Replies, the Rust's answers in 01's
-- words; Runs, lists of calls on accounts alone; Panics, where the Rust could panic. laws/ is what is proved of these.
pub mod Account
pub mod Rust
pub mod Replies
pub mod Panics
pub mod Runs
