pub mod AnswerRows
pub mod Stored
pub mod Answered
pub mod Injective
pub mod Append
