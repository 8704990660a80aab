pub mod InLanes
pub mod WalkedLanes
