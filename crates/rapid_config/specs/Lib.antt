pub mod Endpoints
pub mod Faults
