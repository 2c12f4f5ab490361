pub mod Enabled
pub mod Entry
