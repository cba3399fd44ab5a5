pub mod Endings
pub mod Spelling
pub mod Splitting
pub mod Streams
pub mod Texts
