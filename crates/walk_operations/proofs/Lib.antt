pub mod OperationLaws
pub mod Memoryless
pub mod Reading
