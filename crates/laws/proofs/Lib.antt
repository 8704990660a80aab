pub mod calls
pub mod transform
pub mod form
pub mod value
pub mod cost
pub mod reading
pub mod acceptance
