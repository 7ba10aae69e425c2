use Rattle.std.proofs.Common.{◌≡◌, ◌++◌}
use Rattle.syntax.specs.Canonical.{indent}
use Rattle.layout.proofs.writer.indent.Given as goal

abbrev pub invariant-loop-level : goal.invariant-loop-level
invariant-loop-level l = l.out.items ≡ l.fn.out.items ++ indent l._level
