pub mod Endings
pub mod Front
pub mod Spelled
pub mod Underway
