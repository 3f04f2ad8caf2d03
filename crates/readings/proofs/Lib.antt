pub mod Bursts
pub mod Unsound
