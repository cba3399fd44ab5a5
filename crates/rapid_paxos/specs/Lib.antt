pub mod Codes
pub mod Ranged
pub mod Reported
pub mod Notices
pub mod Refusals
pub mod Invariants
