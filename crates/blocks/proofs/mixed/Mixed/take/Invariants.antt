use Rattle.std.proofs.Common.{◌≡◌, ◌≤◌}
use Rattle.std.specs.Prelude.{option_map}
use Rattle.blocks.specs.Blocks.{held_in, owned_at}
use Rattle.blocks.specs.Counts.{how_many}
use Rattle.blocks.specs.Held.{Owned, first_of}
use Rattle.blocks.specs.Offsets.{Agree}
use Rattle.blocks.specs.Numbers.{IsAsWide}
use Rattle.blocks.proofs.WalkLemmas.{so_far}
use Rattle.blocks.proofs.mixed.Mixed.take.Given as goal

-- what is owned so far has come in and was counted
abbrev pub invariant-loop-offset : goal.invariant-loop-offset
invariant-loop-offset l =
    Agree (held_in l.self) (so_far l.offset
    (λ k. first_of (option_map Owned (owned_at l.other k)) (held_in l.initial.self k)) (held_in l.initial.self))
    × IsAsWide l.self.numbers l.initial.self.numbers
    × (l.copied ≡ how_many (owned_at l.other) l.offset)
    × (l.offset ≤ 256)
