pub mod Codes
pub mod Members
pub mod Parts
pub mod Quiet
pub mod Saying
