pub mod Held
pub mod Injective
pub mod Bulk
pub mod Listed
pub mod Passed
pub mod Again
