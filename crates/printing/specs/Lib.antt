pub mod Packing
pub mod Texts
