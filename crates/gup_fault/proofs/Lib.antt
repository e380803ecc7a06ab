pub mod Puts
pub mod Bytes
pub mod FaultSteps
pub mod ReadyPages
