pub mod Bytes
pub mod Wordings
