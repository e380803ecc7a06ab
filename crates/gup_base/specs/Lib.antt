pub mod Counts
pub mod Packing
pub mod Parts
