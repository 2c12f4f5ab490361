pub mod Product
pub mod Sign
