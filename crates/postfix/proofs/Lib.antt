pub mod Chains
pub mod Fold
pub mod Put
pub mod Writes
pub mod Links
pub mod Terms
