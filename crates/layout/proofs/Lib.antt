pub mod GapLemmas
pub mod GoingLemmas
pub mod LengthLemmas
pub mod RelaidLemmas
pub mod TrimmedLemmas
