pub mod Doubles
pub mod Elements
pub mod Kept
