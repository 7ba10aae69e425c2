use Rattle.std.proofs.Common.{arith}
use Rattle.printing.proofs.Appending.{fails, first_begins}
use Rattle.printing.proofs.emit.emit_turns.Goals as goal

pub returns-in_err-emit_turn : goal.returns-in_err-emit_turn
returns-in_err-emit_turn g c =
    fails _ c.from_residual.ensures.0
    (first_begins _ _ c.loop-turn.turn-index _ _ _ _ _ (omega arith) c.turn-item.is c.loop-turn.invariant
    c.in_err-emit_turn.ensures)
