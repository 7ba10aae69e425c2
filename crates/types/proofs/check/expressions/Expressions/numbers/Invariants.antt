use Rattle.std.proofs.Common.{◌≡◌, ◌∷◌, ◌++◌, drop, map}
use Rattle.syntax_tree.specs.Tree.{expr}
use Rattle.types.specs.ExpressionErrors as errors
use Rattle.types.specs.Resolution as resolution
use Rattle.types.specs.Resolving.{names_of}
use Rattle.types.specs.Translation.{number}
use Rattle.types.proofs.check.expressions.Expressions.numbers.Given as goal

-- the expressions so far have no errors, and are resolved
abbrev pub invariant-loop-expr : goal.invariant-loop-expr
invariant-loop-expr l =
    let label = l.fn.self.label in
    let names = names_of l.fn.self.names.now in
    let left = map expr (drop l.expr-index l.rest) in
    record {
      right : errors.numbers label names (expr l.fn.first ∷ map expr l.rest) ≡ errors.numbers label names left;
      code : map (resolution.number names) (expr l.fn.first ∷ map expr l.rest)
          ≡ map number l.values.items ++ map (resolution.number names) left;
    }
