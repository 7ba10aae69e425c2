use Rattle.std.proofs.Common.{◌≡◌, ◌++◌, map, drop}
use Rattle.std.specs.Prelude.{flat_map}
use Rattle.effects.specs.Flows.{flows_of}
use Rattle.effects.specs.Roots.{root_in}
use Rattle.effects.specs.Visits.{visit}
use Rattle.effects.proofs.outlines.flow_visits.Given as goal

-- with those of the remaining statements, all are there
abbrev pub invariant-loop-visit : goal.invariant-loop-visit
invariant-loop-visit l =
    l.into.items ++ flat_map (flows_of l.caller l.procedures (root_in l.roots)) (map visit (drop l.visit-index l.visits))
    ≡ l.initial.into.items ++ flat_map (flows_of l.caller l.procedures (root_in l.roots)) (map visit l.visits)
