pub mod Codes
pub mod Messages
