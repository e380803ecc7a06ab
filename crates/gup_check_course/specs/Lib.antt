pub mod Same
pub mod Arcs
pub mod Standing
