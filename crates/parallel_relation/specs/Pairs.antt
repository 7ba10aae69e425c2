-- The pairs of labels that may run together, as they are stored and as they are listed.
use Rattle.std.specs.Prelude.{ℕ, zero, suc, ◌≡◌, ◌≤◌, ◌<◌, ◌+◌, ◌-◌, ◌^◌, ◌⊎◌, ◌↔◌, List, [], ◌∷◌, ◌++◌, drop}
use Rattle.std.specs.Prelude.{if◌then◌else◌}
use Rattle.sections.specs.Member.{Member}
use Rattle.types.specs.Code.{Program}
use Rattle.effects.specs.LabelSets.{has_label}
use Rattle.effects.specs.declared.label_set.LabelSet.{LabelSet}
use Rattle.parallel_relation.specs.Together.{LabelsMeet}
use Rattle.parallel_relation.specs.Rows.{HasAt, rows_of}
use Rattle.parallel_relation.specs.declared.pairs.Pairs.{Pairs}
use Rattle.parallel_relation.specs.declared.pairs.PairList.{PairList}

-- two labels form a pair, in no order: the row of the smaller one has the larger
abbrev pub HasPair : Pairs → (x y : ℕ) → Type 0
HasPair pairs x y = ((x ≤ y) × HasAt pairs.rows x y) ⊎ ((y ≤ x) × HasAt pairs.rows y x)

-- the pairs are those of a program
abbrev pub ArePairs : Program → Pairs → Type 0
ArePairs p pairs = (x y : ℕ) → HasPair pairs x y ↔ LabelsMeet p x y

-- a pair comes before another: its first label is smaller, or the first labels are equal and its
-- second is smaller
abbrev pub StandsBefore : (pair other : ℕ × ℕ) → Type 0
StandsBefore pair other = (pair.0 < other.0) ⊎ ((pair.0 ≡ other.0) × (pair.1 < other.1))

-- each comes before all that follow it
abbrev pub Ascend : List (ℕ × ℕ) → Type 0
Ascend [] = Unit {0}
Ascend (x ∷ xs) = ((y : ℕ × ℕ) → Member y xs → StandsBefore x y) × Ascend xs

-- the pairs as a list: in ascending order, so each once, with the smaller label first
pub record AreListed (has : ℕ → ℕ → Type 0) (pairs : List (ℕ × ℕ)) : Type 0 where
  pub smaller_first : (x y : ℕ) → Member (x, y) pairs → x ≤ y
  pub only : (x y : ℕ) → Member (x, y) pairs → has x y
  pub every : (x y : ℕ) → x ≤ y → has x y → Member (x, y) pairs
  pub ascending : Ascend pairs

-- the pairs of a label with those of the next n labels, from y on, that its row has
abbrev pub in_row : (row : LabelSet) → (x y n : ℕ) → List (ℕ × ℕ)
in_row row x y zero = []
in_row row x y (suc n) =
    if has_label row y then (x, y) ∷ in_row row x (y + 1) n else in_row row x (y + 1) n

-- the pairs of rows, the first of which is that of x; labels are below `end`
abbrev pub in_rows : (end x : ℕ) → List LabelSet → List (ℕ × ℕ)
in_rows end x [] = []
in_rows end x (row ∷ rows) = in_row row x x (end - x) ++ in_rows end (x + 1) rows

-- the pairs of rows, the first of which is that of x and is listed from y on
abbrev pub from_place : (end x y : ℕ) → List LabelSet → List (ℕ × ℕ)
from_place end x y [] = []
from_place end x y (row ∷ rows) = in_row row x y (end - y) ++ in_rows end (x + 1) rows

-- the pairs that an iterator has left
abbrev pub pairs_left : PairList → List (ℕ × ℕ)
pairs_left list =
    from_place (2 ^ 32) list.first list.second (drop list.first (rows_of list.pairs.now.rows))
