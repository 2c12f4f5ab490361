pub mod Resolving
pub mod Decoding
pub mod Forms
pub mod Examples
