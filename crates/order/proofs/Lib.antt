pub mod Inserting
pub mod InSlots
pub mod Padding
