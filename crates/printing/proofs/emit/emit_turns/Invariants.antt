use Rattle.std.proofs.Common.{◌++◌, codes}
use Rattle.std.specs.Fmt.{decimal}
use Rattle.printing.proofs.Appending.{AppendsFirst}
use Rattle.printing.proofs.emit.emit_turns.Given as goal

abbrev pub invariant-loop-turn : goal.invariant-loop-turn
invariant-loop-turn g l =
    AppendsFirst (λ n. codes "." ++ decimal n) l.turns l.turn-index (g.W.Write.contents l.fn.out)
    (g.W.Write.contents l.out)
