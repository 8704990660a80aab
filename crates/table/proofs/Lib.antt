pub mod Truth
pub mod Entries
pub mod Injective
