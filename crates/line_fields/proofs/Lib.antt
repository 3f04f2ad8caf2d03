pub mod Ending
pub mod Splitting
