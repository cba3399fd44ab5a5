pub mod Repeating
pub mod Remembering
pub mod Askers
pub mod Parts
