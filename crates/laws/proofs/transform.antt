pub mod Mobius
pub mod Zhegalkin
pub mod Packed
pub mod RoundTrip
