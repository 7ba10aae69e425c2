pub mod Changes
pub mod Handled
pub mod InRows
pub mod Moved
pub mod Opened
pub mod Turns
pub mod WhichEvent
pub mod Within
