pub mod Alerts
pub mod Kinds
pub mod Listing
pub mod Marks
pub mod Outboxes
pub mod Refusals
pub mod RingMasks
pub mod Spelt
