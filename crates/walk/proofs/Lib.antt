pub mod Applied
pub mod Small
pub mod Injective
