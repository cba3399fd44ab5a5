pub mod Records
pub mod States
pub mod Notices
pub mod Desks
pub mod Taking
