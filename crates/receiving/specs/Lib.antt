pub mod Causes
pub mod Receiving
pub mod Syndromes
pub mod Tests
