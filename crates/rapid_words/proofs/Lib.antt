pub mod Asking
pub mod Grammars
pub mod Reading
pub mod Refusing
