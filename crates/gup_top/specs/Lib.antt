pub mod Cause
pub mod Stuck
pub mod Report
pub mod LiveRun
pub mod Commands
