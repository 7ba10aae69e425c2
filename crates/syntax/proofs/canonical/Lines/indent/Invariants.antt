use Rattle.syntax.specs.Canonical.{indent}
use Rattle.syntax.specs.Writing.{Adds}
use Rattle.syntax.proofs.canonical.Lines.indent.Given as goal

abbrev pub invariant-loop-block : goal.invariant-loop-block
invariant-loop-block l = Adds l.fn.self l.self (indent l._block)
