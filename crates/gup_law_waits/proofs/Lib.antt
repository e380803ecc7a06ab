pub mod WalksKept
pub mod PlainWaits
pub mod LocksKept
pub mod Sleepers
