pub mod Memories
pub mod Readings
pub mod WhyThePremise
pub mod Zeroing
