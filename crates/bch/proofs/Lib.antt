pub mod Roots
pub mod Codewords
pub mod Messages
pub mod Encoding
