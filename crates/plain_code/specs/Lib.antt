pub mod Plain
pub mod Means
pub mod Calm
pub mod Pieces
