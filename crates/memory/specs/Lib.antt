pub mod Access
pub mod LittleEndian
pub mod Read
pub mod Transfer
