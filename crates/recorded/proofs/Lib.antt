pub mod Injective
pub mod Part
