pub mod Moved
pub mod Text
