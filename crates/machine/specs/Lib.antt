pub mod Update
pub mod Shape
pub mod Calls
pub mod Setting
pub mod Reading
pub mod Run
