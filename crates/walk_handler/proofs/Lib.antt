pub mod Handled
pub mod Served
pub mod Offsets
pub mod Sources
