pub mod Raised
pub mod Rows
