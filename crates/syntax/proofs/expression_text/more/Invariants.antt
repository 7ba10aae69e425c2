use Rattle.std.proofs.Common.{[]}
use Rattle.syntax.specs.Spelling.{more_then}
use Rattle.syntax_tree.specs.Tree.{exprs}
use Rattle.syntax.proofs.ExpressionText.{IsWriting, more_text}
use Rattle.syntax.proofs.expression_text.more.Given as goal

-- the expressions that are left are to be written
abbrev pub invariant-loop-e : goal.invariant-loop-e
invariant-loop-e l = IsWriting more_text l.exprs l.e-index l.out l.fn.out (more_then (exprs l.fn.exprs) [])
