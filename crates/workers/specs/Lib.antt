pub mod Causes
pub mod Logs
pub mod Own
pub mod Words
pub mod WorkerStates
