use Rattle.std.proofs.Common.{◌≡◌, ◌<◌, List, ◌∷◌, length, map}
use Rattle.syntax.specs.declared.token.Mark.TheVariants.{RightParen}
use Rattle.syntax.specs.Spelling.{parameters_then, more_parameters_then}
use Rattle.syntax.specs.Token.{Token, MarkToken, plain}
use Rattle.syntax_tree.specs.Tree.{Parameter, parameter}
use Rattle.syntax.proofs.programs.parameters.Given as goal

abbrev pub invariant-loop-after : goal.invariant-loop-after
invariant-loop-after l = record {
  shorter : length l.left < length l.fn.tokens;
  some : 0 < length l.parameters.items;
  spelled : plain l.fn.tokens ≡ parameters_then (map parameter l.parameters.items) (plain l.left);
  whole : (all : List Parameter) (rest : List Token)
      → plain l.fn.tokens ≡ parameters_then all (MarkToken RightParen ∷ rest)
      → (end : List Parameter) × (plain l.left ≡ more_parameters_then end (MarkToken RightParen ∷ rest));
}

abbrev pub decreases-loop-after : goal.decreases-loop-after
decreases-loop-after l = length l.left
