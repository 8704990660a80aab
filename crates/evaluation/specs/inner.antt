pub mod Packed
pub mod OneSetting
