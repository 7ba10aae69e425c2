use Rattle.std.proofs.Common.{◌<◌}
use Rattle.std.specs.Prelude.{All}
use Rattle.trace_layout.proofs.InRows.{ArePlaced}
use Rattle.trace_layout.proofs.rows.rows_of.Given as goal

abbrev pub invariant-loop-stretch : goal.invariant-loop-stretch
invariant-loop-stretch l = record {
  placed : ArePlaced l.stretches l.stretch-index l.ends.items l.rows.items;
  few : All (λ row. row < l.most) l.rows.items;
}
