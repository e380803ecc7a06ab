pub mod Cuts
pub mod Ahead
pub mod NoteLines
pub mod Taken
pub mod Scripts
pub mod Traces
pub mod Refused
