pub mod ReadRecord
pub mod Marks
pub mod Injective
pub mod Again
