use Rattle.std.proofs.Common.{[], map}
use Rattle.syntax.specs.Spelling.{parameters_then}
use Rattle.syntax_tree.specs.Tree.{parameter}
use Rattle.syntax.proofs.ExpressionText.{IsWriting}
use Rattle.syntax.proofs.LineText.{parameters_text}
use Rattle.syntax.proofs.canonical.parameters.Given as goal

-- the parameters that are left are to be written
abbrev pub invariant-loop-next : goal.invariant-loop-next
invariant-loop-next l =
    IsWriting (parameters_text l.first) l.parameters l.next-index l.out l.fn.out
    (parameters_then (map parameter l.fn.parameters) [])
