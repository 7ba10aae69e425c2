pub mod Ledger
pub mod Entries
pub mod Lines
