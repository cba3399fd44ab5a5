pub mod Apart
pub mod BitSets
pub mod Counting
pub mod Deciding
