pub mod Digits
pub mod Halves
pub mod Integers
pub mod Ranges
