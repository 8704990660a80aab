pub mod Answers
pub mod Truth
