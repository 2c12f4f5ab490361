pub mod Operands
pub mod Plan
