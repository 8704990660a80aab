pub mod Chosen
pub mod Saving
pub mod Partial
pub mod CubeTest
pub mod Shared
pub mod Positive
