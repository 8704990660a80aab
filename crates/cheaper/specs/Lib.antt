pub mod Better
pub mod Part
