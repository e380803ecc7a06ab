pub mod Alone
pub mod Lowered
