pub mod Decision
pub mod Kept
pub mod AnswerFits
pub mod Operation
