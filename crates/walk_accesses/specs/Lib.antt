pub mod Alignment
pub mod Loading
pub mod Storing
