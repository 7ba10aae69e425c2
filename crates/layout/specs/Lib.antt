pub mod Gap
pub mod Kept
pub mod Laid
pub mod Spot
pub mod Writing
