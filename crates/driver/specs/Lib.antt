pub mod Acts
pub mod More
pub mod Objects
pub mod Orders
pub mod Traced
pub mod Trying
pub mod Watching
