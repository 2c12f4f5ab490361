pub mod Setting
pub mod Reading
pub mod Calls
pub mod StateWord
pub mod Copy
