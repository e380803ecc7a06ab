pub mod PageTables
pub mod Kept
