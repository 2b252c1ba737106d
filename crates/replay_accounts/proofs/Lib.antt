-- What the proofs give: Records, that the replay of records is told by `Differ`.
pub mod Records
