use Rattle.printing.specs.OutcomeText.{line_text}
use Rattle.printing.proofs.Appending.{AppendsFirst}
use Rattle.printing.proofs.emit.emit_lines.Given as goal

abbrev pub invariant-loop-line : goal.invariant-loop-line
invariant-loop-line g l =
    AppendsFirst (λ line. line_text line.items) l.lines l.line-index (g.W.Write.contents l.fn.out)
    (g.W.Write.contents l.out)
