pub mod TreeCosts
pub mod Depth
pub mod Injective
pub mod DepthStack
pub mod Again
