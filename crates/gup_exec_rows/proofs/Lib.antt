pub mod GridLemmas
pub mod ObjectLemmas
pub mod ProcLemmas
pub mod ClearingLemmas
pub mod RowLemmas
pub mod TableLemmas
