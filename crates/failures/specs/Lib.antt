pub mod FailureStatus
pub mod Failures
pub mod Messages
pub mod Races
