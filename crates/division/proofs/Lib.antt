pub mod Quotients
pub mod Words
