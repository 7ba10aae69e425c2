use Rattle.std.proofs.Common.{◌≡◌, drop}
use Rattle.syntax_tree.specs.Tree.{expr, conj, neg, conjs, negs}
use Rattle.syntax_tree.specs.declared.tree.Expr.{out-Expr}
use Rattle.syntax_tree.specs.declared.tree.Conj.{out-Conj}
use Rattle.types.specs.Code.{Also}
use Rattle.types.specs.ExpressionErrors as errors
use Rattle.types.specs.Resolution as resolution
use Rattle.types.specs.Resolving.{names_of}
use Rattle.types.proofs.Expressions.{chosen}
use Rattle.types.proofs.check.expressions.Expressions.+truth.Given as goal

-- the operands so far have no errors, and the remaining ones resolve to the rest of the chain
abbrev pub invariant-truth-loop-conj : goal.invariant-truth-loop-conj
invariant-truth-loop-conj l =
    let names = names_of l.fn.self.names.now in
    let left = conjs (drop l.conj-index l.conj-items) in
    record {
      right : errors.truth l.fn.self.label names (expr l.fn.e) ≡ errors.conjs l.fn.self.label names left;
      code : chosen l.parts.items (resolution.conjs names left)
          ≡ Also (resolution.truth_conj names (conj (out-Expr l.fn.e).first)) (resolution.conjs names (conjs l.conj-items));
    }

abbrev pub invariant-truth_conj-loop-neg : goal.invariant-truth_conj-loop-neg
invariant-truth_conj-loop-neg l =
    let names = names_of l.fn.self.names.now in
    let left = negs (drop l.neg-index l.neg-items) in
    record {
      right : errors.truth_conj l.fn.self.label names (conj l.fn.e) ≡ errors.negs l.fn.self.label names left;
      code : chosen l.parts.items (resolution.negs names left)
          ≡ Also (resolution.truth_neg names (neg (out-Conj l.fn.e).first)) (resolution.negs names (negs l.neg-items));
    }
