use Rattle.std.proofs.Common.{◌≡◌, drop}
use Rattle.syntax_tree.specs.Tree.{sum, prod, unary, terms, factors}
use Rattle.syntax_tree.specs.declared.tree.Sum.{out-Sum}
use Rattle.syntax_tree.specs.declared.tree.Prod.{out-Prod}
use Rattle.types.specs.ExpressionErrors as errors
use Rattle.types.specs.Resolution as resolution
use Rattle.types.specs.Resolving.{names_of}
use Rattle.types.specs.Translation.{number}
use Rattle.types.proofs.Expressions.{linked}
use Rattle.types.proofs.check.expressions.Expressions.+number.Given as goal

-- the operands so far have no errors, and the remaining ones resolve to the rest of the chain
abbrev pub invariant-number_prod-loop-factor : goal.invariant-number_prod-loop-factor
invariant-number_prod-loop-factor l =
    let names = names_of l.fn.self.names.now in
    let left = factors (drop l.factor-index l.factor-items) in
    record {
      right : errors.number_prod l.fn.self.label names (prod l.fn.e) ≡ errors.factors l.fn.self.label names left;
      code : linked l.rest.items (resolution.factors names left) ≡ resolution.factors names (factors l.factor-items);
      first : resolution.number_unary names (unary (out-Prod l.fn.e).first) ≡ number l.first;
    }

abbrev pub invariant-number_sum-loop-term : goal.invariant-number_sum-loop-term
invariant-number_sum-loop-term l =
    let names = names_of l.fn.self.names.now in
    let left = terms (drop l.term-index l.term-items) in
    record {
      right : errors.number_sum l.fn.self.label names (sum l.fn.e) ≡ errors.terms l.fn.self.label names left;
      code : linked l.rest.items (resolution.terms names left) ≡ resolution.terms names (terms l.term-items);
      first : resolution.number_prod names (prod (out-Sum l.fn.e).first) ≡ number l.first;
    }
