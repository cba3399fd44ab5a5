pub mod Receiving
pub mod Sending
