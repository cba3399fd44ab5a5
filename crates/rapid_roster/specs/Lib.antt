pub mod Heads
pub mod Once
pub mod Indexed
