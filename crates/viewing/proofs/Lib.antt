pub mod Remarked
pub mod Scheduled
pub mod Viewing
pub mod Written
