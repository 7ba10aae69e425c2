pub mod Lists
pub mod Standing
pub mod Primitive
pub mod Leading
pub mod Resume
pub mod Bounds
pub mod Watched
pub mod Turns
