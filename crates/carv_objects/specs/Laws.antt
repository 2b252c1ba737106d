-- What serves the proofs: definitions that inner contracts cite, and laws. Nothing here need be believed: what is said with it is used up in the proofs of the entry
-- points. AreaExact and AreaKinds have theorems for readers: there is one way to write a registry, and each kind is stored as a listed code.
pub mod Rows
pub mod Formed
pub mod AreaSteps
pub mod AreaLaws
pub mod SoundWalk
pub mod SoundPlace
pub mod SoundTurn
pub mod SoundBridge
pub mod AreaExact
pub mod AreaKinds
pub mod Booked
pub mod Calls
pub mod Codes
pub mod CallSteps
pub mod TotalSteps
pub mod Cpu
pub mod Opening
pub mod Entry
