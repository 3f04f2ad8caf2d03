pub mod Polynomials
pub mod Field
pub mod Binary
pub mod Words
