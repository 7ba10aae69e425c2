use Rattle.std.proofs.Common.{refl, arith}
use Rattle.printing.proofs.Appending.{fails, first_begins}
use Rattle.printing.proofs.emit.emit_spaced.Goals as goal

pub returns-in_err-emit_behind_space : goal.returns-in_err-emit_behind_space
returns-in_err-emit_behind_space g c =
    fails _ c.from_residual.ensures.0
    (first_begins _ _ c.loop-value.value-index _ _ _ _ _ (omega arith) refl c.loop-value.invariant
    c.in_err-emit_behind_space.ensures)
