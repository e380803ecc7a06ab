pub mod LastWrite
pub mod Possible
pub mod Parts
