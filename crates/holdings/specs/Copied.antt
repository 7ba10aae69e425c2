-- The number of places that are copied when others are moved, and its maximum.
use Rattle.std.specs.Prelude.{ℕ, ◌+◌, ◌-◌, ◌*◌, ◌/◌, ◌^◌, ◌<◌, ◌≤◌, ◌≡◌, ℤ, min, List, Bool, true, ◌&&◌, not}
use Rattle.std.specs.Prelude.{nat_le, is_some, None, if◌then◌else◌}
use Rattle.std.specs.List.{count_by, list_any, range_with_len, sum_by}
use Rattle.sections.specs.Covers.{has, is_cover, is_in}
use Rattle.sections.specs.Place.{Place, Window}
use Rattle.blocks.specs.Counts.{how_many}
use Rattle.blocks.specs.Held.{Held, Map}
use Rattle.holdings.specs.Rows.{place_at}

-- windows form a cover, and have exactly the places of a set
pub record IsCoverOf (ws : List Window) (set : Place → Bool) : Type 0 where
  pub form : is_cover ws ≡ true
  pub places : (q : Place) → has ws q ≡ set q

-- a map has nothing past the ends of arrays with these lengths
abbrev pub LiesWithin : {A : Type 0} → (lengths : ℕ → ℕ) → Map A → Type 0
LiesWithin lengths m = (q : Place) → (m q ≡ None → ⊥) → q.index < lengths q.array

-- whether a window has all places of a block, in an array of this length
abbrev pub has_block : (length : ℕ) → Window → (block : ℕ) → Bool
has_block n w b = nat_le w.at (256 * b) && nat_le (min n (256 * b + 256)) (w.at + w.length)

-- the number of places of a window in blocks that aren't wholly inside the window
abbrev pub split_places : (lengths : ℕ → ℕ) → Window → ℕ
split_places lengths w =
    count_by (λ i. not (has_block (lengths w.array) w (i / 256))) (range_with_len w.at w.length)

-- the sum of these numbers over all windows
abbrev pub split_in : (lengths : ℕ → ℕ) → List Window → ℕ
split_in lengths ws = sum_by (split_places lengths) ws

-- the sum over all windows, counting only places that pass a test
abbrev pub split_where : (Place → Bool) → (lengths : ℕ → ℕ) → List Window → ℕ
split_where test lengths ws = sum_by (λ w. count_by
    (λ i. test (record { array = w.array; index = i })
    && not (has_block (lengths w.array) w (i / 256)))
    (range_with_len w.at w.length)) ws

-- the count rises by at most the number of places of a set that lie in blocks that aren't wholly
-- inside the set. The bound applies to all array lengths within which the map lies.
abbrev pub CopiesSplit : {A : Type 0} → Map A → (set : Place → Bool) → (old new : ℕ) → Type 0
CopiesSplit m set old new = (lengths : ℕ → ℕ) (ws : List Window)
    → LiesWithin lengths m → IsCoverOf ws set → new ≤ old + split_in lengths ws

-- a count of 64 bits, which stops at the largest number
abbrev pub as_count : ℕ → ℕ
as_count n = min n (2 ^ 64 - 1)

-- whether something is held in a block at a place outside a set
unfoldable pub splits : Map Held → (set : Place → Bool) → (array block : ℕ) → Bool
splits m set a b =
    list_any (λ k. is_some (m (place_at a b k)) && not (set (place_at a b k))) (range_with_len 0 256)

-- the number of places of a window that are copied when the window moves out: those in blocks that
-- hold something outside the window
abbrev pub copied_from : Map Held → Window → ℕ
copied_from m w =
    count_by (λ i. splits m (is_in w) w.array (i / 256)) (range_with_len w.at w.length)

-- the sum over all windows
abbrev pub carve_copies : Map Held → List Window → ℕ
carve_copies m ws = sum_by (copied_from m) ws

-- the number of places that are copied when numbers come into a block: all of them if the block
-- holds something at another place, else none
abbrev pub copied_into : Map Held → (new : Map ℤ) → (array block : ℕ) → ℕ
copied_into m new a b = if splits m (λ q. is_some (new q)) a b
    then how_many (λ k. new (place_at a b k)) 256
    else 0

-- the sum over all blocks of an array
unfoldable pub copied_into_array : Map Held → (new : Map ℤ) → (array : ℕ) → ℕ
copied_into_array m new a = sum_by (copied_into m new a) (range_with_len 0 16384)

-- the sum over the first arrays
abbrev pub paste_copies : Map Held → (new : Map ℤ) → (arrays : ℕ) → ℕ
paste_copies m new n = sum_by (copied_into_array m new) (range_with_len 0 n)

-- a map has something only in the first arrays
abbrev pub IsInArrays : {A : Type 0} → (arrays : ℕ) → Map A → Type 0
IsInArrays n m = (q : Place) → (m q ≡ None → ⊥) → q.array < n

-- the count rises by exactly the number of places that are copied when a set moves out
abbrev pub CountsCarve : Map Held → (set : Place → Bool) → (old new : ℕ) → Type 0
CountsCarve m set old new = (ws : List Window) → IsCoverOf ws set
    → new ≡ as_count (old + carve_copies m ws)

-- the count rises by exactly the number of places that are copied when numbers come in
abbrev pub CountsPaste : Map Held → (coming : Map ℤ) → (old new : ℕ) → Type 0
CountsPaste m coming old new = (n : ℕ) → IsInArrays n coming
    → new ≡ as_count (old + paste_copies m coming n)
