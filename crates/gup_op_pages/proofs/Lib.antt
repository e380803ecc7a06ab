pub mod Viewing
pub mod Loading
pub mod Mapping
pub mod Unmapping
