pub mod Asking
pub mod FirstWords
pub mod Traces
