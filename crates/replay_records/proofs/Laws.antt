-- What is proved: Tally, that no count of a run wraps; Replayed, one record more; Run, one block more; Word, the words of a record.
pub mod Tally
pub mod Replayed
pub mod Run
pub mod Word
