pub mod Slots
pub mod ProbeWord
pub mod BoardRule
pub mod Boards
pub mod Probes
