pub mod Found
pub mod Turns
pub mod Shows
pub mod Text
pub mod Written
pub mod Report
pub mod Untold
