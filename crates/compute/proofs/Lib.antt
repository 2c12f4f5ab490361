pub mod Ends
pub mod Products
