use Rattle.std.proofs.Common.{◌≡◌, ◌+◌, ◌*◌, List, drop}
use Rattle.syntax_tree.proofs.tree.Stmt.TheLaws.{the_size}
use Rattle.syntax_tree.specs.declared.tree.Stmt.TheVariants.{If as rIf, Rescue as rRescue}
use Rattle.syntax.specs.declared.token.Left.TheVariants.{Margin}
use Rattle.syntax.specs.Spelling.{block_then}
use Rattle.syntax.specs.Token.{Token}
use Rattle.syntax_tree.specs.Tree.{block}
use Rattle.syntax.specs.Writing.{with_rest, IsCounted}
use Rattle.syntax.proofs.canonical.+stmt.Given as goal

-- what is written, and the statements that are left
abbrev pub invariant-statements-loop-statement : goal.invariant-statements-loop-statement
invariant-statements-loop-statement l = record {
  counted : IsCounted l.lines;
  written : (r : List Token) → with_rest l.fn.lines Margin (block_then (block l.fn.body) r)
      ≡ with_rest l.lines Margin (block_then (block (drop l.statement-index l.body)) r);
}

-- The measure is the depth of what is written. At one depth a block calls the function for its
-- statements, that function calls the one for a line, and a line calls the one for a conditional, or
-- for a finish with its rescue.
abbrev pub decreases-block : goal.decreases-block
decreases-block l = 4 * goal.size-block l + 3

abbrev pub decreases-statements : goal.decreases-statements
decreases-statements l = 4 * goal.size-statements l + 2

abbrev pub decreases-line : goal.decreases-line
decreases-line l = 4 * goal.size-line l + 1

abbrev pub decreases-conditional : goal.decreases-conditional
decreases-conditional l = 4 * the_size (rIf l.guard.now l.body.now l.other.now)

abbrev pub decreases-rescue : goal.decreases-rescue
decreases-rescue l = 4 * the_size (rRescue l.body.now l.faults.now l.handler.now)
