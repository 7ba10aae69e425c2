pub mod Choices
pub mod Choosing
pub mod Held
