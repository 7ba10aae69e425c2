use Rattle.std.proofs.Common.{◌<◌}
use Rattle.parallel_relation.specs.Around.{Adds}
use Rattle.parallel_relation.specs.Rows.{HasAt}
use Rattle.parallel_relation.proofs.SpreadLemmas.{Turned}
use Rattle.parallel_relation.proofs.spread.turn_row.Given as goal

-- the pairs with smaller labels are turned
abbrev pub invariant-loop-label : goal.invariant-loop-label
invariant-loop-label l =
    Adds (HasAt l.initial.rows) (λ x y. (x < l.label) × Turned l.number (HasAt l.initial.rows) x y) (HasAt l.rows)
