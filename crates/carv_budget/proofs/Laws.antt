-- What is proved of the definitions. Refines, Demand2: the calls, and lists of them, are the Rust's, where RunsSound has that lists keep accounts sound. Panics: the Rust doesn't; PanicCases: its lists of what can
-- panic, written out. Limits, Edges: numbers and limits, and document 01's marked cases, written out. Fits: no sum that is stored passes 64 bits. Account: the laws that the crates
-- above cite.
pub mod Account
pub mod Refines
pub mod RunsSound
pub mod Demand2
pub mod Edges
pub mod Panics
pub mod Limits
pub mod PanicCases
pub mod Fits
