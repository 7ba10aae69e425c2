-- The minimum and the median of five durations.
use Rattle.std.specs.Prelude.{ℕ, ◌≡◌, List, slice_index, IsPermutation, IsSorted}
use Rattle.std.specs.Ordering.{nat_cmp}

-- this is the minimum of these durations, and this the median
pub record AreOf (times : List ℕ) (least median : ℕ) : Type 0 where
  pub ordered : List ℕ
  pub same : IsPermutation times ordered
  pub in_order : IsSorted nat_cmp ordered
  pub least_is : least ≡ slice_index ordered 0
  pub median_is : median ≡ slice_index ordered 2
