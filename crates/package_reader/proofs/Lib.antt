pub mod Checked
pub mod Fields
pub mod Injective
