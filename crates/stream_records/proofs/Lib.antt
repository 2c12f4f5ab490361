pub mod Layouts
pub mod Next
pub mod Readers
pub mod Reaching
