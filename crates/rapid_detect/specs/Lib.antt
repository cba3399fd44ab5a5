pub mod Commands
pub mod Numbers
pub mod Phases
pub mod Replies
pub mod TooLong
