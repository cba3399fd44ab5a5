pub mod Windows
pub mod Named
pub mod ProbeWords
pub mod Moves
pub mod Verdicts
pub mod Seats
pub mod Rounds
pub mod Books
