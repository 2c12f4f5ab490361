pub mod Context
pub mod Operation
pub mod OperationReady
pub mod Plan
