mod CopyExamples
pub mod Covering
pub mod Found
pub mod Splitting
mod Examples
pub mod Beside
pub mod Thrift
pub mod Seen
pub mod Untallied
pub mod Untabled
pub mod Rows
pub mod Fair
pub mod Turns
pub mod Owners
pub mod Frames
pub mod TurnFrames
pub mod Rescues
pub mod Waiting
pub mod Looping
pub mod MachineLemmas
pub mod EndLemmas
pub mod Going
