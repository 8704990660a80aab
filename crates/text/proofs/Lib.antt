pub mod Shown
pub mod Decimal
pub mod TableDigits
pub mod FlagCount
pub mod Injective
pub mod Places
