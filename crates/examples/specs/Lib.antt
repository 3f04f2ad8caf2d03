pub mod Ones
pub mod Strengths
