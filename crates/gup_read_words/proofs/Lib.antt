pub mod ParsedNumbers
pub mod Cuts
pub mod SpelledNames
pub mod SpelledNumbers
pub mod SpelledPlaces
pub mod SpelledTurns
pub mod Steps
pub mod WordCuts
