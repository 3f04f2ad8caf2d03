pub mod Copying
pub mod Syndromes
pub mod Deciding
