pub mod Search
pub mod Pools
pub mod States
pub mod Graph
pub mod Reach
pub mod Ends
pub mod Explored
