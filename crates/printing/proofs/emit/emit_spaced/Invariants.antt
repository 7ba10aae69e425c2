use Rattle.std.proofs.Common.{◌++◌, codes}
use Rattle.std.specs.Fmt.{signed_decimal}
use Rattle.printing.proofs.Appending.{AppendsFirst}
use Rattle.printing.proofs.emit.emit_spaced.Given as goal

abbrev pub invariant-loop-value : goal.invariant-loop-value
invariant-loop-value g l =
    AppendsFirst (λ n. codes " " ++ signed_decimal n) l.values l.value-index (g.W.Write.contents l.fn.out)
    (g.W.Write.contents l.out)
