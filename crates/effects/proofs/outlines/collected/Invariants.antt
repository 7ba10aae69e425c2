use Rattle.std.proofs.Common.{ℕ, take}
use Rattle.std.specs.Prelude.{◌↔◌}
use Rattle.sections.specs.Member.{Member}
use Rattle.effects.specs.SummaryRows.{HasRow}
use Rattle.effects.specs.declared.summary.SummaryRow.{SummaryRow}
use Rattle.effects.proofs.outlines.collected.Given as goal

-- the labels so far are in their rows
abbrev pub invariant-loop-start : goal.invariant-loop-start
invariant-loop-start l = (r : SummaryRow) (k : ℕ) → HasRow l.summary r k ↔ Member (record { row = r; label = k }) (take l.start-index l.starts)
