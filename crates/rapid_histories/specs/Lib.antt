pub mod Examples
pub mod Firsts
pub mod Notices
pub mod Observing
pub mod Promises
pub mod Votes
