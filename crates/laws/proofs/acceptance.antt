pub mod Accepts
pub mod AcceptsCompiled
