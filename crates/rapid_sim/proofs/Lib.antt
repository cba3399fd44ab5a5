pub mod Exact
pub mod Founders
pub mod Lines
pub mod Losing
pub mod Progress
pub mod Settling
pub mod Views
