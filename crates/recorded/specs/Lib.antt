pub mod Numbers
pub mod Noise
pub mod Results
pub mod Sizes
pub mod Pattern
