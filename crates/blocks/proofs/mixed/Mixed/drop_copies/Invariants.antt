use Rattle.std.proofs.Common.{◌≡◌}
use Rattle.std.specs.Prelude.{option_map}
use Rattle.blocks.specs.Blocks.{held_in}
use Rattle.blocks.specs.Held.{Owned, owned_number}
use Rattle.blocks.specs.Offsets.{Agree}
use Rattle.blocks.proofs.WalkLemmas.{so_far}
use Rattle.blocks.proofs.mixed.Mixed.drop_copies.Given as goal

-- the copies so far are dropped
abbrev pub invariant-loop-offset : goal.invariant-loop-offset
invariant-loop-offset l =
    Agree (held_in l.self)
    (so_far l.offset (λ k. option_map Owned (owned_number (held_in l.initial.self k))) (held_in l.initial.self))
    × (l.self.numbers ≡ l.initial.self.numbers)
