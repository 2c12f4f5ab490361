pub mod Bytes
pub mod Inside
pub mod Number
pub mod Power
pub mod Transfer
pub mod Written
