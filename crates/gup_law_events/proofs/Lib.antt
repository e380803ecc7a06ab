pub mod Start
pub mod FullPaths
pub mod Possible
pub mod CountIdentity
pub mod PublishedRules
pub mod EventRuns
pub mod InsideRuns
