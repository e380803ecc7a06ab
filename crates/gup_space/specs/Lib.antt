pub mod Space
pub mod Shows
pub mod Counted
pub mod Found
pub mod ShownTables
