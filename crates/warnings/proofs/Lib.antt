pub mod Bools
pub mod Found
pub mod Idle
pub mod Stopping
pub mod Unfitting
