pub mod Cost
pub mod Size
pub mod Bytes
pub mod Mentioned
pub mod Mentions
pub mod Floor
pub mod Fits
pub mod Saved
