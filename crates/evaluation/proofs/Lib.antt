pub mod Evaluated
pub mod Injective
pub mod Packed
pub mod Values
