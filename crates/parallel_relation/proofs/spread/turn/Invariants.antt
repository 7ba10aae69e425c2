use Rattle.std.proofs.Common.{◌<◌}
use Rattle.parallel_relation.specs.Around.{Adds}
use Rattle.parallel_relation.specs.Rows.{HasAt}
use Rattle.parallel_relation.specs.Spread.{Turns}
use Rattle.parallel_relation.proofs.spread.turn.Given as goal

-- the rows so far are turned
abbrev pub invariant-loop-number : goal.invariant-loop-number
invariant-loop-number l =
    Adds (HasAt l.initial.rows) (λ x y. (y < l.number) × Turns (HasAt l.initial.rows) x y) (HasAt l.rows)
