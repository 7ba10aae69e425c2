pub mod Climbing
pub mod Covering
pub mod Cutting
mod Examples
pub mod Lines
pub mod Members
pub mod Numbered
pub mod Overlapping
pub mod Pieces
pub mod Sorting
pub mod Unique
pub mod Windows
