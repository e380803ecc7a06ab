pub mod Machine
pub mod Rest
pub mod Going
pub mod Waking
pub mod Images
