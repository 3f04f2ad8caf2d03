pub mod Same
pub mod Deciding
pub mod Inverse
pub mod Reading
pub mod Laying
pub mod Chunks
