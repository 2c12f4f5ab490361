pub mod Premise
pub mod Cuts
pub mod Run
pub mod Faults
pub mod Masks
pub mod Refusals
