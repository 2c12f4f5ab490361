pub mod Transfer
pub mod Moving
pub mod SidesReady
