pub mod ClusterText
pub mod Driven
pub mod Noting
pub mod Written
