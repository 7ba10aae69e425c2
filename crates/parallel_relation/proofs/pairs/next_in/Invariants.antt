use Rattle.std.proofs.Common.{ℕ, ◌≤◌, ◌<◌}
use Rattle.effects.specs.LabelSets.{HasLabel}
use Rattle.parallel_relation.proofs.pairs.next_in.Given as goal

-- the labels so far aren't in the row
abbrev pub invariant-loop-label : goal.invariant-loop-label
invariant-loop-label l = (k : ℕ) → l.from ≤ k → k < l.label → HasLabel l.row k → ⊥
