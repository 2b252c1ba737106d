-- What is proved of the definitions. Kinds: each kind has its code, and each listed code its kind. Questions: each question of each call. Removal: what a removal leaves, P2. Question15: what a removal need not ask, P12. Within,
-- Totals: P1's "below" and sums; BookTotals: those of the book; TotalsCases: a tree of budgets, written out. Charging: charges added, split, undone and in another order, P7;
-- BookCharging: these by the book; ChargingCases: a few budgets, written out. Spending: P3's invariant, and its steps; Overspending, Listed: each call keeps it, and the ledger has
-- every live budget; LedgerWithin: its "below" is P1's; Noted: it notes what the book takes, and strikes nothing out; Clock: what
-- "never fall" says; LedgerCases: a small ledger, written out. Demand1: what a refusal leaves. Kept: calls keep soundness, which SoundFacts has as facts.
-- Refines, Demand2: the calls, and lists of them, are the Rust's. Panics: the Rust doesn't; PanicCases: its lists of what can panic, written out. History: the book's figures
-- are the lines; Sentences says it field by field. Added, Limits, Edges, Unsound: which refusals are added, codes and limits, document 01's marked cases, and what is not sound,
-- written out. The others serve these.
pub mod Kinds
pub mod SoundFacts
pub mod SoundLaws
pub mod Steps
pub mod Kept
pub mod Refines
pub mod History
pub mod Demand1
pub mod Sentences
pub mod Demand2
pub mod Added
pub mod Limits
pub mod Unsound
pub mod Questions
pub mod Removal
pub mod Question15
pub mod Within
pub mod Totals
pub mod BookTotals
pub mod TotalsCases
pub mod Charging
pub mod ChargingCases
pub mod BookCharging
pub mod Spending
pub mod Overspending
pub mod Listed
pub mod LedgerWithin
pub mod Noted
pub mod Clock
pub mod LedgerCases
pub mod Edges
pub mod Asked
pub mod Panics
pub mod PanicCases
