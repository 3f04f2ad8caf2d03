pub mod Turns
pub mod Weakest
pub mod Held
pub mod Lists
pub mod InTurns
pub mod Ties
