-- The root of the crate's definitions. What a reader must believe: Record, Op, Replay. Laws has theorems on these.
pub mod Record
pub mod Op
pub mod Replay
pub mod Laws
