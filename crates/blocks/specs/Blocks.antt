-- What a block holds.
use Rattle.std.specs.Prelude.{◌-◌, get_or, ℤ, Option, Some, None, option_map}
use Rattle.std.specs.Arc.{arc_value}
use Rattle.std.specs.Box.{box_value}
use Rattle.blocks.specs.Held.{Held, Owned, Shared, owned_number, number_of}
use Rattle.blocks.specs.Numbers.{number_in, whole_at}
use Rattle.blocks.specs.Offsets.{Offsets}
use Rattle.blocks.specs.declared.block.Block.{Block}
use Rattle.blocks.specs.declared.block.Block.TheVariants.{Empty, Mixed as InParts}
use Rattle.blocks.specs.declared.block.Block.TheVariants.{Owned as AllOwned, Shared as AllShared, WholeOwned, WholeShared}
use Rattle.blocks.specs.declared.kind.HeldAs.{HeldAs}
use Rattle.blocks.specs.declared.kind.HeldAs.TheVariants.{Absent, Own, Copied}
use Rattle.blocks.specs.declared.mixed.Mixed.{Mixed}

-- a number together with the kind in which it is held
abbrev pub held_as : HeldAs → Option ℤ → Option Held
held_as Absent v = None
held_as Own v = option_map Owned v
held_as Copied v = option_map Shared v

-- how an offset is held
abbrev pub kind_of : Option Held → HeldAs
kind_of None = Absent
kind_of (Some (Owned v)) = Own
kind_of (Some (Shared v)) = Copied

-- what is held if each offset has its own kind
abbrev pub held_in : Mixed → Offsets Held
held_in m k = held_as (get_or m.kinds.items (k - m.numbers.first) Absent) (number_in m.numbers k)

-- what a block holds: at some offsets a number and its kind
abbrev pub held_at : Block → Offsets Held
held_at (WholeOwned w) k = option_map Owned (whole_at (arc_value w) k)
held_at (WholeShared w) k = option_map Shared (whole_at (arc_value w) k)
held_at Empty k = None
held_at (AllOwned n) k = option_map Owned (number_in (arc_value n) k)
held_at (AllShared n) k = option_map Shared (number_in (arc_value n) k)
held_at (InParts m) k = held_in (box_value m) k

-- the numbers that a block owns
abbrev pub owned_at : Block → Offsets ℤ
owned_at b k = owned_number (held_at b k)

-- the numbers that a block holds, owned or not
abbrev pub number_at : Block → Offsets ℤ
number_at b k = option_map number_of (held_at b k)
