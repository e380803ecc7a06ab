pub mod FrameWords
pub mod Free
pub mod Keeps
pub mod There
