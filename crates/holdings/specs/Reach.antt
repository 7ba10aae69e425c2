-- Where the places of windows are in rows of blocks.
use Rattle.std.specs.Prelude.{ℕ, ◌≡◌, ◌<◌, ◌≤◌, ◌+◌, ◌*◌, ◌↔◌}
use Rattle.std.specs.Prelude.{List, Option, Some, None, length, slice_get}
use Rattle.sections.specs.Place.{Place, Window}
use Rattle.holdings.specs.declared.row.BlockRow.{BlockRow}

-- the first place of an array's row
abbrev pub begins_at : Option BlockRow → ℕ
begins_at None = 0
begins_at (Some r) = 256 * r.first

-- the place at this distance from the first place of an array's row
abbrev pub place_at : List BlockRow → (array at : ℕ) → Place
place_at rs array at = record { array = array; index = begins_at (slice_get rs array) + at }

-- the row of an array has a block for the place at this distance from its first place
pub record ReachesTo (rs : List BlockRow) (array at : ℕ) : Type 0 where
  pub row : BlockRow
  pub there : slice_get rs array ≡ Some row
  pub reaches : at < 256 * length row.blocks.items

-- a window is at this distance from the first place of its array's row, which has blocks for all of it
pub record LiesFrom (rs : List BlockRow) (w : Window) (at : ℕ) : Type 0 where
  pub row : BlockRow
  pub there : slice_get rs w.array ≡ Some row
  pub begins : 256 * row.first + at ≡ w.at
  pub reaches : at + w.length ≤ 256 * length row.blocks.items

-- a window is at no distance: its array has no row, or a row without blocks for all of the window
abbrev pub LiesNowhere : List BlockRow → Window → Type 0
LiesNowhere rs w = (at : ℕ) → ¬ (LiesFrom rs w at)

-- windows are at the distances that they were at
abbrev pub LieAsBefore : (old new : List BlockRow) → Type 0
LieAsBefore old new = (w : Window) (at : ℕ) → LiesFrom old w at ↔ LiesFrom new w at
