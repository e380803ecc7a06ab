pub mod Mirrors
pub mod Shows
