-- The root of the crate's definitions. What a reader must believe: Scheduler, document 01's thread calls; Sound, its soundness of a board; Rust, the Rust's
-- methods; Replies, the Rust's results in 01's words; Panics, where the Rust could panic; Book, 01's book; Runs, lists of calls; Ledger, P3's ledger and clock; Demand1
-- to Demand3, what the demands are said with. laws/ is what is proved of these.
pub mod Scheduler
pub mod Sound
pub mod Rust
pub mod Replies
pub mod Book
pub mod Runs
pub mod Ledger
pub mod Demand1
pub mod Demand2
pub mod Demand3
pub mod Panics
pub mod Codes
pub mod Killed
