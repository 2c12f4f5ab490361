pub mod Calls
pub mod Line
pub mod Number
pub mod Shown
pub mod Tally
pub mod Words
