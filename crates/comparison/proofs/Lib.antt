pub mod Same
pub mod Called
pub mod Told
pub mod Fronts
