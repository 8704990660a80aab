pub mod Recursion
pub mod Turn
pub mod ValueParts
pub mod Value
pub mod Compiled
