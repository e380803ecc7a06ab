pub mod Births
pub mod Doers
pub mod Locks
pub mod Stores
pub mod Parts
pub mod Stands
pub mod Seats
