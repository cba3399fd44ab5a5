pub mod Batches
pub mod Entries
pub mod Indexes
pub mod Listing
pub mod Marks
pub mod Raisings
pub mod RingMasks
