use Rattle.std.proofs.Common.{length}
use Rattle.std.specs.List.{zip}
use Rattle.types.specs.Translation.{array}
use Rattle.printing.specs.OutcomeText.{array_text}
use Rattle.printing.proofs.Appending.{AppendsFirst}
use Rattle.printing.proofs.emit.emit_arrays.Given as goal

abbrev pub invariant-loop-array : goal.invariant-loop-array
invariant-loop-array g l =
    AppendsFirst (λ (a, elements). array_text (array a, elements.items)) (zip l.fn.declared l.fn.contents)
    (length l.yielded) (g.W.Write.contents l.fn.out) (g.W.Write.contents l.out)
