pub mod Small
pub mod Walked
