pub mod Text
pub mod WordCut
