pub mod Said
pub mod Turns
pub mod Tidy
pub mod Far
pub mod Jobs
