use Rattle.types.specs.Translation.{fault}
use Rattle.printing.specs.OutcomeText.{fault_text}
use Rattle.printing.proofs.Appending.{AppendsFirst}
use Rattle.printing.proofs.emit.emit_faults.Given as goal

abbrev pub invariant-loop-fault : goal.invariant-loop-fault
invariant-loop-fault g l =
    AppendsFirst (λ f. fault_text (fault f)) l.faults l.fault-index (g.W.Write.contents l.fn.out)
    (g.W.Write.contents l.out)
