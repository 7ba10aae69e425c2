pub mod ShareLemmas
pub mod Steps
