use Rattle.std.proofs.Common.{◌≡◌, ◌+◌, drop}
use Rattle.trace_layout.specs.Rows.{first_free}
use Rattle.trace_layout.proofs.rows.first_free.Given as goal

-- so many rows are full, and then what is left
abbrev pub invariant-loop-row : goal.invariant-loop-row
invariant-loop-row l = l.row + first_free (drop l.row l.ends) l.first ≡ first_free l.ends l.first
