pub mod Standing
pub mod After
pub mod TransferLaws
pub mod Walks
