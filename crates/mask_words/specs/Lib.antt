pub mod Lookup
pub mod inner
