pub mod TurnParts
pub mod Unseen
pub mod UnseenTurns
