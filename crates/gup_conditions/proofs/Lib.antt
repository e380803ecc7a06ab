pub mod AnswerWords
pub mod ConditionLines
pub mod FoundOperations
pub mod PieceTexts
pub mod Pieces
pub mod Verdicts
pub mod ShownLines
pub mod NamedOperations
