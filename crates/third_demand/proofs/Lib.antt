pub mod ThirdDemand
pub mod Contracts
