pub mod Asking
pub mod Observed
pub mod Quiet
pub mod Settling
pub mod Showing
pub mod Viewing
