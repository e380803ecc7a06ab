pub mod Mapped
pub mod Passing
