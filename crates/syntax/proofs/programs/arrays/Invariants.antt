use Rattle.std.proofs.Common.{◌≡◌, ◌<◌, ◌≤◌, List, length, map}
use Rattle.syntax.specs.Reading.{binds, list_level}
use Rattle.syntax.specs.Spelling.{arrays_then}
use Rattle.syntax.specs.Token.{Token, plain}
use Rattle.syntax_tree.specs.Tree.{Array, array}
use Rattle.syntax.proofs.programs.arrays.Given as goal

abbrev pub invariant-loop-after : goal.invariant-loop-after
invariant-loop-after l = record {
  shorter : length l.left ≤ length l.fn.tokens;
  spelled : plain l.fn.tokens ≡ arrays_then (map array l.arrays.items) (plain l.left);
  whole : (all : List Array) (rest : List Token) → binds rest < list_level → plain l.fn.tokens ≡ arrays_then all rest
      → (end : List Array) × (plain l.left ≡ arrays_then end rest);
}

abbrev pub decreases-loop-after : goal.decreases-loop-after
decreases-loop-after l = length l.left
