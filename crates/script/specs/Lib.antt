pub mod Given
pub mod Lines
pub mod Seen
