pub mod Counts
pub mod Reclaimed
pub mod Reclaims
pub mod Taken
pub mod TakenOut
pub mod Fuller
pub mod PathWords
pub mod Bare
