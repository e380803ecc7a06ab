pub mod Maps
pub mod Table
