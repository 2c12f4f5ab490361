pub mod Pieces
pub mod ByRecord
pub mod Example
pub mod WithoutRuns
