pub mod Written
pub mod Instance
pub mod Injective
