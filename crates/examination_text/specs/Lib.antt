pub mod Notation
pub mod Verdict
pub mod Input
pub mod inner
