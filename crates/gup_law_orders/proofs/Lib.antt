pub mod OrderRuns
pub mod ToldLines
pub mod NumberedNotes
