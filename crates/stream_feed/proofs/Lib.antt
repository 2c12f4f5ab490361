pub mod Accepting
pub mod Fed
pub mod Feeding
pub mod Texts
