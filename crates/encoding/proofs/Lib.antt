pub mod Codes
pub mod Passed
