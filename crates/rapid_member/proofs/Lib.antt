pub mod Ballots
pub mod Echoing
pub mod Flushing
pub mod Hosts
pub mod Leaving
pub mod Places
pub mod Quiet
pub mod Waiting
