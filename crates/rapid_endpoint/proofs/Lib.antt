pub mod Ascents
pub mod Below
pub mod Begun
pub mod Commas
pub mod Fronts
pub mod Hosts
pub mod Keys
pub mod Listed
pub mod Numbers
pub mod Parts
pub mod Places
pub mod Rooms
pub mod Spellings
pub mod TagLists
pub mod TagReading
mod Untagged
pub mod Walking
