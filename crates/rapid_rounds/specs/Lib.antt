pub mod PartRounds
pub mod Edges
