pub mod Parts
pub mod Whole
pub mod Choices
pub mod Remainders
