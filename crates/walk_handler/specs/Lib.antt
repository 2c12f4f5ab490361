pub mod Prepare
pub mod Unit
