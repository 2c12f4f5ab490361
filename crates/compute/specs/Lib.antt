pub mod Compute
pub mod Ends
pub mod Products
