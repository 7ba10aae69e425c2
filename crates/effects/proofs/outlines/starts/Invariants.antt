use Rattle.std.proofs.Common.{◌≡◌, ◌++◌, map, drop}
use Rattle.std.specs.Prelude.{flat_map}
use Rattle.effects.specs.Roots.{root_in}
use Rattle.effects.specs.Starts.{starts_of}
use Rattle.effects.specs.Visits.{visit}
use Rattle.effects.proofs.outlines.starts.Given as goal

-- with those of the remaining statements, all are there
abbrev pub invariant-loop-visit : goal.invariant-loop-visit
invariant-loop-visit l =
    l.starts.items ++ flat_map (starts_of (root_in l.roots)) (map visit (drop l.visit-index l.visits))
    ≡ l.initial.starts.items ++ flat_map (starts_of (root_in l.roots)) (map visit l.visits)
