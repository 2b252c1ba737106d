-- The root of the crate's definitions, which its contracts and the crates above take. Words: numbers in bytes, and what a store of words leaves; Lists: a list made
-- of a function; Moves, Zero: words that move, that are cleared, that are 0; Table: rows by id, the Rust's `BTreeMap`; Rows, Stored: a table in words and in bytes; Keys,
-- Search, Lookup: a row by its key; Parts: a part of an area. laws/ is what is proved of these.
pub mod Table
pub mod Lists
pub mod Words
pub mod Moves
pub mod Zero
pub mod Rows
pub mod Keys
pub mod Search
pub mod Parts
pub mod Stored
pub mod Lookup
pub mod Laws
