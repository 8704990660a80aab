pub mod Injective
pub mod Walked
