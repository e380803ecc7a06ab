pub mod MoveAfter
pub mod MoveLemmas
pub mod MoveSteps
