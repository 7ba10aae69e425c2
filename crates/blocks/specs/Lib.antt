pub mod Blocks
pub mod Counts
pub mod Held
pub mod Numbers
pub mod Offsets
pub mod Ready
