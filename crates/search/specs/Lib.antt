pub mod Family
pub mod Inner
