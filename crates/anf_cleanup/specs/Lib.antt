pub mod Plan
pub mod Inner
