pub mod Form
pub mod Injective
