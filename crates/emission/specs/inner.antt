pub mod Emitted
pub mod Due
