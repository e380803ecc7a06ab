mod BusTurns
mod FewOperations
mod Lives
