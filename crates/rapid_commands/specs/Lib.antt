pub mod Invocations
pub mod NodeWords
pub mod Statuses
