pub mod Fronts
pub mod Moved
