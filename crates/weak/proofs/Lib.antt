pub mod Ranking
pub mod Only
pub mod Asking
