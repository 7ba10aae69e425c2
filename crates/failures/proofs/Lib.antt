pub mod LeastRaces
pub mod Statuses
