pub mod Filtering
pub mod Handing
pub mod Noting
pub mod Posting
pub mod Seating
