pub mod Counting
pub mod Errors
pub mod Local
pub mod Queues
pub mod Receiving
pub mod Sending
