-- Blocks that can be changed without memory.
use Rattle.std.specs.Prelude.{ℕ, ◌≡◌, ◌⊎◌, ℤ, None}
use Rattle.std.specs.Box.{box_value}
use Rattle.blocks.specs.Numbers.{number_in}
use Rattle.blocks.specs.Blocks.{held_at, owned_at}
use Rattle.blocks.specs.Offsets.{Offsets, HasAll, HasOnly, IsWithin}
use Rattle.blocks.specs.declared.block.Block.{Block}
use Rattle.blocks.specs.declared.block.Block.TheVariants.{Empty, Mixed as InParts}
use Rattle.blocks.specs.declared.block.Block.TheVariants.{Owned as AllOwned, Shared as AllShared, WholeOwned, WholeShared}
use Rattle.blocks.specs.declared.cut.Cut.{Cut}

-- where a block has its own room for numbers, held or not
abbrev pub room_at : Block → Offsets ℤ
room_at (WholeOwned w) k = None
room_at (WholeShared w) k = None
room_at Empty k = None
room_at (AllOwned n) k = None
room_at (AllShared n) k = None
room_at (InParts m) k = number_in (box_value m).numbers k

-- a cut of a range can be carved out of a block without memory: either nothing else is held, or the
-- block has room
pub record IsReady (b : Block) (from to : ℕ) (c : Cut) : Type 0 where
  pub owned : HasAll from to (owned_at b)
  pub whole : c.copied ≡ 0 → HasOnly from to (held_at b)
  pub room : (c.copied ≡ 0 → ⊥) → HasAll from to (room_at b)

-- a block can take in what another owns without memory: either the other owns all that is held, or
-- there is room
abbrev pub CanTake : (b other : Block) → Type 0
CanTake b other =
    IsWithin (held_at b) (owned_at other) ⊎ IsWithin (owned_at other) (room_at b)
