pub mod Lent
pub mod Chosen
pub mod Preferred
pub mod Injective
