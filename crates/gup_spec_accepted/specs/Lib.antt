pub mod Said
pub mod Turns
pub mod Waits
pub mod Passing
pub mod Accepted
