pub mod State
pub mod Event
pub mod Invariant
pub mod Fault
pub mod Failure
pub mod Growth
pub mod Descent
