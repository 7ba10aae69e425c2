use Rattle.std.proofs.Common.{[]}
use Rattle.syntax.specs.Spelling.{expr_then, conj_then, sum_then, prod_then}
use Rattle.syntax_tree.specs.Tree.{expr, conj, sum, prod}
use Rattle.syntax.proofs.ExpressionText.{IsWriting, conjs_text, negs_text, terms_text, factors_text}
use Rattle.syntax.proofs.expression_text.+expr.Given as goal

-- The operands that are left are to be written.

abbrev pub invariant-expr-loop-operand : goal.invariant-expr-loop-operand
invariant-expr-loop-operand l = IsWriting conjs_text l.operand-items l.operand-index l.out l.fn.out (expr_then (expr l.fn.e) [])

abbrev pub invariant-conj-loop-operand : goal.invariant-conj-loop-operand
invariant-conj-loop-operand l = IsWriting negs_text l.operand-items l.operand-index l.out l.fn.out (conj_then (conj l.fn.e) [])

abbrev pub invariant-sum-loop-term : goal.invariant-sum-loop-term
invariant-sum-loop-term l = IsWriting terms_text l.term-items l.term-index l.out l.fn.out (sum_then (sum l.fn.e) [])

abbrev pub invariant-prod-loop-factor : goal.invariant-prod-loop-factor
invariant-prod-loop-factor l = IsWriting factors_text l.factor-items l.factor-index l.out l.fn.out (prod_then (prod l.fn.e) [])
