pub mod Codes
pub mod Phases
pub mod Quiet
pub mod Steps
pub mod Views
