pub mod Fields
pub mod Highest
