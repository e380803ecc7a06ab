pub mod Put
pub mod State
pub mod Pages
pub mod Event
pub mod Denial
pub mod Note
pub mod Kinds
