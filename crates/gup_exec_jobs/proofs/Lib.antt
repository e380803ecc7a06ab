pub mod RangeLemmas
pub mod WalkLemmas
