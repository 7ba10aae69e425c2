pub mod AddingLemmas
pub mod BlockLemmas
pub mod KindLemmas
pub mod RowLemmas
pub mod WalkLemmas
