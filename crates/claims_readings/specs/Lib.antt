pub mod Machines
pub mod Readings
pub mod Report
pub mod WhyThePremise
pub mod Zeroing
