pub mod Examples
pub mod Finding
pub mod Firsts
pub mod Going
pub mod Noticing
pub mod Observing
pub mod Promising
pub mod Voting
