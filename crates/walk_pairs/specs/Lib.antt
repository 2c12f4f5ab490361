pub mod Side
pub mod Pair
