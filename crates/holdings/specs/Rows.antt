-- What rows of blocks hold.
use Rattle.std.specs.Prelude.{ℕ, ℤ, ◌+◌, ◌-◌, ◌*◌, ◌/◌, ◌%◌, ◌<◌, ◌≡◌, ◌&&◌, nat_eq, nat_le, Bool, true, List}
use Rattle.std.specs.Prelude.{slice_get, Option, Some, None, ◌⊎◌, option_and_then, option_map, if◌then◌else◌}
use Rattle.sections.specs.Place.{Place}
use Rattle.blocks.specs.Offsets.{Offsets}
use Rattle.blocks.specs.Blocks.{held_at}
use Rattle.blocks.specs.Held.{Held, Map, Owned}
use Rattle.blocks.specs.declared.block.Block.{Block}
use Rattle.holdings.specs.declared.row.BlockRow.{BlockRow}
use Rattle.holdings.specs.declared.rows.BlockRows.{BlockRows}

-- the block with a number, if a row has it
abbrev pub block_in : BlockRow → ℕ → Option Block
block_in r b = if nat_le r.first b then slice_get r.blocks.items (b - r.first) else None

-- the block of an array with a number, if rows have it
abbrev pub block_of : List BlockRow → (array block : ℕ) → Option Block
block_of rs a b = option_and_then (λ r. block_in r b) (slice_get rs a)

-- what a block holds, if there is one
abbrev pub held_of : Option Block → ℕ → Option Held
held_of None k = None
held_of (Some b) k = held_at b k

-- a block is unchanged, or is a new block that holds nothing
abbrev pub IsAsBefore : (old new : Option Block) → Type 0
IsAsBefore old new = (new ≡ old) ⊎ ((old ≡ None) × ((k : ℕ) → held_of new k ≡ None))

-- a block owns the numbers of a list, from its first place on
abbrev pub OwnsList : Block → List ℤ → Type 0
OwnsList b ns = (k : ℕ) → k < 256 → held_at b k ≡ option_map Owned (slice_get ns k)

-- what a row holds
abbrev pub in_row : BlockRow → ℕ → Option Held
in_row r i = held_of (block_in r (i / 256)) (i % 256)

-- what rows hold, with one row for each array
abbrev pub held_in_list : List BlockRow → Map Held
held_in_list rs q = held_of (block_of rs q.array (q.index / 256)) (q.index % 256)

abbrev pub held_in : BlockRows → Map Held
held_in r = held_in_list r.list.items

-- whether a place lies in a block of an array
abbrev pub in_block : (array block : ℕ) → Place → Bool
in_block a b q = nat_eq q.array a && nat_eq (q.index / 256) b

-- the place at an offset of a block
abbrev pub place_at : (array block offset : ℕ) → Place
place_at a b k = record { array = a; index = 256 * b + k }

-- what a block has at its offsets is at places of a set
abbrev pub StandsIn : {A : Type 0} → (Place → Bool) → (array block : ℕ) → Offsets A → Type 0
StandsIn set a b m = (k : ℕ) → (m k ≡ None → ⊥) → set (place_at a b k) ≡ true

-- a block replaces another, and all other blocks are unchanged
abbrev pub Replaces : (array block : ℕ) → Block → (old new : List BlockRow) → Type 0
Replaces a b x old new = (i j : ℕ) → block_of new i j
    ≡ (if nat_eq i a && nat_eq j b then Some x else block_of old i j)

-- the new rows may have more blocks, which hold nothing
abbrev pub Widens : (old new : List BlockRow) → Type 0
Widens old new = (i j : ℕ) → IsAsBefore (block_of old i j) (block_of new i j)
