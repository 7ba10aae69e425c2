use Rattle.std.proofs.Common.{ℕ, ◌+◌, ◌-◌, vec_len}
use Rattle.std.specs.Prelude.{◌↔◌}
use Rattle.parallel_relation.specs.Rows.{HasAt}
use Rattle.parallel_relation.proofs.rows.Rows.reach.Given as goal

-- the rows have the labels that they had
abbrev pub invariant-loop-alloc : goal.invariant-loop-alloc
invariant-loop-alloc l = (i y : ℕ) → HasAt l.self i y ↔ HasAt l.initial.self i y

abbrev pub decreases-loop-alloc : goal.decreases-loop-alloc
decreases-loop-alloc l = l.number + 1 - vec_len l.self.rows
