pub mod Faults
pub mod Following
pub mod Keys
pub mod Observing
pub mod Places
pub mod Rows
pub mod Seats
