use Rattle.std.proofs.Common.{◌≡◌, ◌<◌, length, ◌+◌, ◌*◌}
use Rattle.syntax.specs.Reading.{or_level, and_level, sign_level, operator_level}
use Rattle.syntax.proofs.RefusalLemmas.{LeavesEnd}
use Rattle.syntax.specs.Spelling.{conj_then, conjs_then, neg_then, negs_then, prod_then, terms_then, unary_then, factors_then}
use Rattle.syntax.specs.Token.{plain}
use Rattle.syntax_tree.specs.Tree.{conj, conjs, neg, negs, prod, terms, unary, factors}
use Rattle.syntax.proofs.expressions.+expr.Given as goal

-- An expression is read from no more tokens than the function is called with; the levels follow one
-- another.
abbrev pub decreases-enclosed : goal.decreases-enclosed
decreases-enclosed l = 10 * length l.tokens.now + 9

abbrev pub decreases-expr : goal.decreases-expr
decreases-expr l = 10 * length l.tokens.now + 8

abbrev pub decreases-conj : goal.decreases-conj
decreases-conj l = 10 * length l.tokens.now + 7

abbrev pub decreases-neg : goal.decreases-neg
decreases-neg l = 10 * length l.tokens.now + 6

abbrev pub decreases-cmp : goal.decreases-cmp
decreases-cmp l = 10 * length l.tokens.now + 5

abbrev pub decreases-sum : goal.decreases-sum
decreases-sum l = 10 * length l.tokens.now + 4

abbrev pub decreases-prod : goal.decreases-prod
decreases-prod l = 10 * length l.tokens.now + 3

abbrev pub decreases-unary : goal.decreases-unary
decreases-unary l = 10 * length l.tokens.now + 2

abbrev pub decreases-atom : goal.decreases-atom
decreases-atom l = 10 * length l.tokens.now + 1

abbrev pub decreases-named : goal.decreases-named
decreases-named l = 10 * length l.tokens.now + 0

-- The tokens before the remaining ones spell what was read so far.
abbrev pub invariant-expr-loop-after : goal.invariant-expr-loop-after
invariant-expr-loop-after l = record {
  shorter : length l.left < length l.fn.tokens;
  spelled : plain l.fn.tokens ≡ conj_then (conj l.first) (conjs_then (conjs l.rest.items) (plain l.left));
  whole : LeavesEnd conj_then conjs_then or_level (plain l.fn.tokens) (plain l.left);
}

abbrev pub decreases-expr-loop-after : goal.decreases-expr-loop-after
decreases-expr-loop-after l = length l.left

abbrev pub invariant-conj-loop-after : goal.invariant-conj-loop-after
invariant-conj-loop-after l = record {
  shorter : length l.left < length l.fn.tokens;
  spelled : plain l.fn.tokens ≡ neg_then (neg l.first) (negs_then (negs l.rest.items) (plain l.left));
  whole : LeavesEnd neg_then negs_then and_level (plain l.fn.tokens) (plain l.left);
}

abbrev pub decreases-conj-loop-after : goal.decreases-conj-loop-after
decreases-conj-loop-after l = length l.left

abbrev pub invariant-sum-loop-sign : goal.invariant-sum-loop-sign
invariant-sum-loop-sign l = record {
  shorter : length l.left < length l.fn.tokens;
  spelled : plain l.fn.tokens ≡ prod_then (prod l.first) (terms_then (terms l.rest.items) (plain l.left));
  whole : LeavesEnd prod_then terms_then sign_level (plain l.fn.tokens) (plain l.left);
}

abbrev pub decreases-sum-loop-sign : goal.decreases-sum-loop-sign
decreases-sum-loop-sign l = length l.left

abbrev pub invariant-prod-loop-operator : goal.invariant-prod-loop-operator
invariant-prod-loop-operator l = record {
  shorter : length l.left < length l.fn.tokens;
  spelled : plain l.fn.tokens ≡ unary_then (unary l.first) (factors_then (factors l.rest.items) (plain l.left));
  whole : LeavesEnd unary_then factors_then operator_level (plain l.fn.tokens) (plain l.left);
}

abbrev pub decreases-prod-loop-operator : goal.decreases-prod-loop-operator
decreases-prod-loop-operator l = length l.left
