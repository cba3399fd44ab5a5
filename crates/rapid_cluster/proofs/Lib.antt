pub mod Driving
pub mod Founding
pub mod Noting
pub mod Reports
pub mod Texts
pub mod Views
