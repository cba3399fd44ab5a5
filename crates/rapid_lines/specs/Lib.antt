pub mod NodeLine
pub mod ViewText
pub mod EdgeText
pub mod Asking
pub mod NoteText
