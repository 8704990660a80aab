pub mod Page
pub mod TableDigits
