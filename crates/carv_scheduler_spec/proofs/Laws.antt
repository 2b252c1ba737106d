-- What is proved of the definitions. Questions: each question of each call. Demand1: what a refusal leaves. Kept: calls keep soundness, which SoundFacts has as facts.
-- Refines, Demand2: the calls, and lists of them, are the Rust's; LentExits: so are searches of lent exits. Panics: the Rust doesn't; PanicCases: its lists of what can
-- panic, written out. Following, History, Demand3: the book follows the board, so its figures are the lines and its choice runs; Sentences says it sentence by sentence.
-- Overspending: no period is overspent, P3; Noted: its ledger notes what the book takes; LedgerCases: histories that spend all, and that overspend, written out.
-- Added, Limits, Edges, Unsound: which refusals are added, codes and limits, document 01's cases, and what is not sound, written out. The others serve these.
pub mod Codes
pub mod Equal
pub mod SoundFacts
pub mod Reading
pub mod SoundLaws
pub mod Steps
pub mod Switching
pub mod Kept
pub mod Questions
pub mod Refines
pub mod LentExits
pub mod Following
pub mod History
pub mod Demand1
pub mod Demand2
pub mod Added
pub mod Limits
pub mod Unsound
pub mod Demand3
pub mod Sentences
pub mod Overspending
pub mod Noted
pub mod LedgerCases
pub mod Edges
pub mod Panics
pub mod PanicCases
