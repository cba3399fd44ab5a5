pub mod Bodies
pub mod Outputs
