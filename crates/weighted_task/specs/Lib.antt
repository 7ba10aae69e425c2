pub mod Ends
pub mod Finishes
pub mod Tasks
pub mod Turns
pub mod Units
