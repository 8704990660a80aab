pub mod Ordered
pub mod Parts
pub mod Literals
pub mod Family
pub mod Covered
pub mod Greatest
