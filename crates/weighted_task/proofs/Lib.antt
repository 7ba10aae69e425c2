pub mod Counting
pub mod Ending
pub mod InPlace
pub mod Staying
pub mod Turning
pub mod WholeChildren
