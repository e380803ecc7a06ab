pub mod ForkBegins
pub mod Shares
pub mod ShareChild
pub mod Copies
pub mod ForkEnds
pub mod ForkFails
pub mod DisturbedWalks
pub mod SharedPages
