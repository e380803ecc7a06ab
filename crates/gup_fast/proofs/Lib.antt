pub mod Begins
pub mod ShownPaths
pub mod ReadingDown
pub mod Pages
pub mod Ends
pub mod Leaving
