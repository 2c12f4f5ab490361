pub mod Outcome
pub mod Walk
pub mod Call
pub mod Invariant
pub mod Cut
pub mod Bound
pub mod Ending
