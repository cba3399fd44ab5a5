pub mod Changing
pub mod Following
pub mod Laws
