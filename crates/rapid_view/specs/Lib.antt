pub mod Words
pub mod CellRule
pub mod Seen
pub mod Laws
