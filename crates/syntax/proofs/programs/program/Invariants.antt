use Rattle.std.proofs.Common.{◌≡◌, ◌≤◌, List, Option, length, map}
use Rattle.syntax.specs.Spelling.{procedures_then, main_tokens}
use Rattle.syntax.specs.Token.{plain}
use Rattle.syntax_tree.specs.Tree.{Main, Procedure, procedure}
use Rattle.syntax.proofs.programs.program.Given as goal

abbrev pub invariant-loop-after : goal.invariant-loop-after
invariant-loop-after l = record {
  shorter : length l.left ≤ length l.fn.tokens;
  spelled : plain l.fn.tokens ≡ procedures_then (map procedure l.procedures.items) (plain l.left);
  whole : (all : List Procedure) (main : Option Main) → plain l.fn.tokens ≡ procedures_then all (main_tokens main)
      → (end : List Procedure) × (plain l.left ≡ procedures_then end (main_tokens main));
}

abbrev pub decreases-loop-after : goal.decreases-loop-after
decreases-loop-after l = length l.left
