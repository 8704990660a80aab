pub mod Outcome
pub mod Checked
pub mod Refused
pub mod Stars
pub mod WordTable
pub mod EachStar
pub mod MaskOrder
pub mod Numbered
