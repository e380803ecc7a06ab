pub mod Causes
pub mod RunEnd
pub mod Commands
mod Told
mod Reports
mod LiveRuns
mod LiveReports
