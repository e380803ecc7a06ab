pub mod Place
pub mod Denial
pub mod Plain
pub mod Thorough
pub mod Follows
pub mod Order
pub mod Stale
