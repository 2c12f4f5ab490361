pub mod Width
pub mod Signed
