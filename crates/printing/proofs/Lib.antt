pub mod Appending
pub mod Escaping
pub mod Examples
pub mod OutcomeText
