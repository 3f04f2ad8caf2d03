pub mod Lines
pub mod Seen
