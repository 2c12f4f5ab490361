pub mod Pause
pub mod Walk
pub mod Turn
pub mod Call
pub mod Invariant
pub mod Cut
pub mod Bound
pub mod Ending
