pub mod Block
pub mod Numbers
