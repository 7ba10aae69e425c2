pub mod CrewErrors
pub mod Tallies
pub mod DequeEnds
