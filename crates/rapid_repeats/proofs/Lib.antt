pub mod Tables
pub mod Askers
pub mod Parts
pub mod Judging
pub mod Judged
