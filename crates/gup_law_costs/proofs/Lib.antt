pub mod WalkBounds
pub mod PinBounds
pub mod ForkBounds
pub mod EmptyingBounds
pub mod FewForks
pub mod TurnCosts
pub mod TurnBounds
pub mod PageBounds
