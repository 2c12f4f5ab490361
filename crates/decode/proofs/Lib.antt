pub mod Found
pub mod Held
pub mod Lengths
pub mod Operands
pub mod Words
pub mod Examples
