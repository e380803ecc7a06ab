pub mod Coming
pub mod Fitting
pub mod Followed
pub mod Mapping
pub mod NoteProgress
pub mod OneMore
pub mod Operations
