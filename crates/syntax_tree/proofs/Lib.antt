pub mod Atoms
pub mod RowLemmas
