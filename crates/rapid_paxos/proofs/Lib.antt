pub mod Noticing
pub mod Coordinating
