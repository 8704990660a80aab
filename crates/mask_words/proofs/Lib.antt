pub mod Entries
pub mod Layer
pub mod Degrees
pub mod Yielded
pub mod Same
pub mod Rest
