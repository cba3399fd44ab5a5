pub mod Parts
pub mod Moves
pub mod Beginnings
pub mod Same
pub mod Outdated
pub mod Published
