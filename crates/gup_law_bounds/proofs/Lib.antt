pub mod EventNumbers
pub mod Births
pub mod FewHolders
pub mod BoundedRuns
pub mod WithinLimits
pub mod PossibleRun
