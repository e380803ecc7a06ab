pub mod Line
pub mod Condition
pub mod Answers
pub mod Reading
pub mod Verdict
pub mod Shown
pub mod Named
