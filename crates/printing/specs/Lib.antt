pub mod Appending
pub mod ExploredText
pub mod Labels
pub mod OutcomeText
pub mod Reasons
