pub mod Bit
pub mod Range
pub mod Sum
pub mod Word
pub mod Fixed
pub mod Stored
pub mod Part
pub mod LowFirst
