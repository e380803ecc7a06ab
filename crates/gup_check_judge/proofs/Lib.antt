pub mod Actors
pub mod Behind
pub mod Holding
pub mod Judging
pub mod Shown
pub mod Steps
pub mod Strangers
