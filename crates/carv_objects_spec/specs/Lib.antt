-- The root of the crate's definitions. What a reader must believe: Kinds, the kinds of objects and their codes; Refused, the refusal numbers; Reply, questions and what a call leaves; Registry, document
-- 01's calls; Sound, its soundness; Question15, the question that P12 drops; Within and Totals, P1's "below" and its reading; Charging, what P7 is said with; Rust, the Rust's
-- methods; Replies, the Rust's results in 01's words; Panics, where the Rust could panic; Book, 01's book; BookTotals, P1's totals by it; Ledger, P3's ledger, and
-- Noted, how it is held against the book; Runs, lists of calls; Demand1 and Demand2, what these demands are said with. laws/ is what is proved of these.
pub mod Kinds
pub mod Refused
pub mod Reply
pub mod Registry
pub mod Sound
pub mod Question15
pub mod Within
pub mod Totals
pub mod Charging
pub mod Rust
pub mod Replies
pub mod Book
pub mod BookTotals
pub mod Ledger
pub mod Noted
pub mod Runs
pub mod Demand1
pub mod Demand2
pub mod Panics
