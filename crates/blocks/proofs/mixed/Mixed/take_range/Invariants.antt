use Rattle.std.proofs.Common.{◌≡◌, ◌-◌}
use Rattle.std.specs.Prelude.{if◌then◌else◌}
use Rattle.blocks.specs.Blocks.{held_at, held_in}
use Rattle.blocks.specs.Offsets.{Agree, in_range}
use Rattle.blocks.specs.Numbers.{IsAsWide}
use Rattle.blocks.proofs.WalkLemmas.{so_far}
use Rattle.blocks.proofs.mixed.Mixed.take_range.Given as goal

-- the numbers so far have come in, and were counted
abbrev pub invariant-loop-offset : goal.invariant-loop-offset
invariant-loop-offset l =
    Agree (held_in l.self) (so_far l.offset
    (λ k. if in_range l.from l.to k then held_at l.other k else held_in l.initial.self k) (held_in l.initial.self))
    × IsAsWide l.self.numbers l.initial.self.numbers
    × (l.copied ≡ l.offset - l.from)
