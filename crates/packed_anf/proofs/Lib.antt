pub mod Raised
pub mod Room
pub mod Stray
pub mod Injective
pub mod Rows
