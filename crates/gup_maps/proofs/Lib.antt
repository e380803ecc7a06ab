pub mod Places
pub mod Values
pub mod Ranges
pub mod Shifted
pub mod CountedRows
