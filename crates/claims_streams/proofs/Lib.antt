pub mod Example
pub mod Pieces
pub mod Prefix
pub mod ByRecord
pub mod WithoutRuns
