use Rattle.std.specs.Prelude.{option_map, if◌then◌else◌}
use Rattle.blocks.specs.Blocks.{held_in, number_at}
use Rattle.blocks.specs.Held.{Shared}
use Rattle.blocks.specs.Offsets.{Agree, in_range}
use Rattle.blocks.specs.Numbers.{IsAsWide}
use Rattle.blocks.proofs.WalkLemmas.{so_far}
use Rattle.blocks.proofs.mixed.Mixed.take_copies.Given as goal

-- the copies so far have come in
abbrev pub invariant-loop-offset : goal.invariant-loop-offset
invariant-loop-offset l =
    Agree (held_in l.self) (so_far l.offset
    (λ k. if in_range l.from l.to k then option_map Shared (number_at l.other k) else held_in l.initial.self k) (held_in l.initial.self))
    × IsAsWide l.self.numbers l.initial.self.numbers
