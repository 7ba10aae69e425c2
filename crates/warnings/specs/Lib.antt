pub mod Ends
pub mod Scopes
pub mod Uses
pub mod Warnings
