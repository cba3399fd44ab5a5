pub mod Jobs
pub mod Handing
