pub mod Spelling
pub mod Names
pub mod Outline
pub mod Said
pub mod Grammar
pub mod Fault
