pub mod Script
pub mod Limits
pub mod Valid
pub mod Views
