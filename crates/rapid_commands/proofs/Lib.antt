pub mod Fronts
pub mod NodeWords
