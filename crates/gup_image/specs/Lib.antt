pub mod Gathered
pub mod Image
pub mod Alike
