pub mod Job
pub mod Needs
pub mod Trail
