pub mod Written
pub mod Repeats
pub mod Asking
pub mod ShownOutcomes
pub mod Rights
pub mod Seen
pub mod Reports
