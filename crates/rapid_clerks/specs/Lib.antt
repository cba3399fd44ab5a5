pub mod Clusters
pub mod Jobs
pub mod Turns
pub mod Verdicts
