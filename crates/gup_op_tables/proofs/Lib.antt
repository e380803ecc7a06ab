pub mod Replaced
pub mod Changed
mod Released
pub mod MappedPages
pub mod FreeTables
pub mod Turns
