pub mod Answering
pub mod Crossings
pub mod Entries
mod Examples
pub mod Found
pub mod HasWays
pub mod Knowns
pub mod Leasts
pub mod OwnMakes
pub mod Parts
pub mod Rounds
pub mod Showing
pub mod Splits
