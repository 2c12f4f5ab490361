pub mod Clear
pub mod Ranges
