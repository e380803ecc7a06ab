pub mod Asking
pub mod Choices
pub mod Report
