pub mod Bus
pub mod Steps
pub mod Live
