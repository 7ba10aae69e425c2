pub mod Reaching
pub mod PlainMeaning
pub mod Calming
pub mod Marking
pub mod Adding
