use Rattle.std.proofs.Common.{◌-◌, ◌+◌, length}
use Rattle.blocks.specs.Blocks.{held_in}
use Rattle.blocks.specs.Numbers.{number_in}
use Rattle.blocks.specs.Offsets.{Agree, IsWithin}
use Rattle.blocks.proofs.mixed.Mixed.widen.Given as goal

-- there is more room, and the same is held
abbrev pub invariant-end : goal.invariant-end
invariant-end l =
    Agree (held_in l.self) (held_in l.initial.self)
    × IsWithin (number_in l.initial.self.numbers) (number_in l.self.numbers)

abbrev pub decreases-end : goal.decreases-end
decreases-end l = l.to - (l.self.numbers.first + length l.self.numbers.list.items)
