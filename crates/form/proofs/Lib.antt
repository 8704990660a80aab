pub mod Masks
pub mod Flags
pub mod WordOperations
pub mod Literals
pub mod Levels
pub mod Injective
pub mod Digits
pub mod Remaining
