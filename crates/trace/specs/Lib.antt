pub mod Logs
pub mod Upgrades
