use Rattle.std.proofs.Common.{◌≡◌, ◌≤◌, List, length, ◌+◌, ◌*◌}
use Rattle.syntax.specs.Spelling.{block_then}
use Rattle.syntax.specs.Token.{Token, plain}
use Rattle.syntax_tree.specs.Tree.{Block}
use Rattle.syntax.proofs.BlockLemmas.{stmts_then}
use Rattle.syntax.proofs.statements.+stmt.Given as goal

abbrev pub decreases-block : goal.decreases-block
decreases-block l = 2 * length l.tokens.now

abbrev pub decreases-conditional : goal.decreases-conditional
decreases-conditional l = 2 * length l.tokens.now

abbrev pub decreases-repeated : goal.decreases-repeated
decreases-repeated l = 2 * length l.tokens.now

abbrev pub decreases-split : goal.decreases-split
decreases-split l = 2 * length l.tokens.now

abbrev pub decreases-parts : goal.decreases-parts
decreases-parts l = 2 * length l.tokens.now

abbrev pub decreases-finish : goal.decreases-finish
decreases-finish l = 2 * length l.tokens.now + 1

abbrev pub decreases-statement : goal.decreases-statement
decreases-statement l = 2 * length l.tokens.now

abbrev pub decreases-statements : goal.decreases-statements
decreases-statements l = 2 * length l.tokens.now + 1

abbrev pub invariant-statements-loop-rest : goal.invariant-statements-loop-rest
invariant-statements-loop-rest l = record {
  shorter : length l.left ≤ length l.fn.tokens;
  spelled : plain l.fn.tokens ≡ stmts_then l.body.items (plain l.left);
  whole : (body : Block) (rest : List Token) → plain l.fn.tokens ≡ block_then body rest
      → (end : Block) × (plain l.left ≡ block_then end rest);
}

abbrev pub decreases-statements-loop-rest : goal.decreases-statements-loop-rest
decreases-statements-loop-rest l = length l.left
