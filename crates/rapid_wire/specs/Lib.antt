pub mod Adding
pub mod Laws
pub mod Reading
pub mod Faults
pub mod Feeding
pub mod Kinds
