pub mod Tally
pub mod Outcome
pub mod Called
