pub mod Change
pub mod Flag
pub mod Values
