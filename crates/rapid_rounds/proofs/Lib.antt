pub mod Dealing
pub mod Observing
