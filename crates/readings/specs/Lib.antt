pub mod Places
pub mod SignedBytes
pub mod GradedBytes
pub mod Strengths
pub mod Burst
