use Rattle.std.proofs.Common.{◌<◌}
use Rattle.effects.specs.LabelSets.{HasLabel}
use Rattle.parallel_relation.specs.Around.{Adds, each}
use Rattle.parallel_relation.specs.Rows.{HasAt}
use Rattle.parallel_relation.proofs.spread.add_to_each.Given as goal

-- smaller labels meet them
abbrev pub invariant-loop-label : goal.invariant-loop-label
invariant-loop-label l =
    Adds (HasAt l.initial.rows) (λ x y. (x < l.label) × each (HasLabel l.members) (HasLabel l.those) x y) (HasAt l.rows)
