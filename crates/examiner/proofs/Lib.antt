pub mod Settings
pub mod Examined
pub mod Injective
pub mod WordWalked
