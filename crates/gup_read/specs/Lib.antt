pub mod Reading
pub mod Steps
pub mod StageViews
pub mod Runs
