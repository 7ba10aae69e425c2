pub mod Inputs
pub mod Members
pub mod NamedArrays
pub mod Programs
pub mod ReadChoices
pub mod Zeros
