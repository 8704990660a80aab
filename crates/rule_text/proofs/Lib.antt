pub mod RecordList
pub mod Left
pub mod LeftStored
pub mod Printed
pub mod Report
pub mod Compiling
pub mod Example
pub mod Lines
