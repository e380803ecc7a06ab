pub mod Fields
pub mod After
pub mod FaultLemmas
pub mod ShowsLemmas
pub mod Tabled
pub mod Pools
pub mod Changes
