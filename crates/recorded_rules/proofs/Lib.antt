pub mod Answers
pub mod Rule
pub mod Injective
