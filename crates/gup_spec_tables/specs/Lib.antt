pub mod Tables
pub mod Paths
