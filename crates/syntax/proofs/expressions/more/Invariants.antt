use Rattle.std.proofs.Common.{◌≡◌, ◌<◌, ◌≤◌, List, length}
use Rattle.syntax.specs.Reading.{AddsExprs, binds, list_level}
use Rattle.syntax.specs.Spelling.{more_then}
use Rattle.syntax.specs.Token.{Token, plain}
use Rattle.syntax_tree.specs.Tree.{Expr}
use Rattle.syntax.proofs.expressions.more.Given as goal

abbrev pub invariant-loop-after : goal.invariant-loop-after
invariant-loop-after l = record {
  shorter : length l.left ≤ length l.fn.tokens;
  spelled : AddsExprs l.fn.earlier.items l.exprs.items (plain l.fn.tokens) (plain l.left);
  whole : (all : List Expr) (rest : List Token) → binds rest < list_level → plain l.fn.tokens ≡ more_then all rest
      → (end : List Expr) × (plain l.left ≡ more_then end rest);
}

abbrev pub decreases-loop-after : goal.decreases-loop-after
decreases-loop-after l = length l.left
