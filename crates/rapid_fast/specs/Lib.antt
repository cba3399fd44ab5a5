pub mod Apart
pub mod Bits
pub mod OwnRound
pub mod Refusals
