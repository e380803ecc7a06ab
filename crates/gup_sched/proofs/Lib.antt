pub mod Underway
pub mod NextActors
pub mod AwakeBits
pub mod AwakeSearches
pub mod AwakeTurns
pub mod Asking
