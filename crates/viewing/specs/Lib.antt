pub mod Files
pub mod Objects
pub mod Views
