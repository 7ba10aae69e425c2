use Rattle.std.proofs.Common.{◌≡◌, ◌++◌, map, drop}
use Rattle.std.specs.Prelude.{flat_map}
use Rattle.effects.specs.Roots.{root_in}
use Rattle.effects.specs.Starts.{starts_of_access}
use Rattle.effects.specs.Translation.{access}
use Rattle.effects.proofs.starts.start_visit.Given as goal

-- with those of the remaining accesses, all are there
abbrev pub invariant-loop-access : goal.invariant-loop-access
invariant-loop-access l =
    l.into.items ++ flat_map (starts_of_access (root_in l.roots) l.visit.standing) (map access (drop l.access-index l.access-items))
    ≡ l.initial.into.items ++ flat_map (starts_of_access (root_in l.roots) l.visit.standing) (map access l.access-items)
