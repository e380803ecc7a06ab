pub mod Ran
pub mod Awake
