use Rattle.std.proofs.Common.{◌∷◌, ◌∙◌, ap, sym, arith}
use Rattle.syntax.specs.Spelling.{atom_then, unary_then, sum_then, conj_then, conjs_then, neg_then, negs_then}
use Rattle.syntax.specs.Spelling.{prod_then, terms_then, factors_then}
use Rattle.syntax.specs.Token.{MarkToken, token, plain}
use Rattle.syntax_tree.specs.Tree.{atom, sum, conj, neg, prod, unary, conjs, negs, terms, factors}
use Rattle.syntax.proofs.ChainLemmas.{behind, expr_then_built, conj_then_built, neg_then_plain, neg_then_not}
use Rattle.syntax.proofs.ChainLemmas.{cmp_then_alone, cmp_then_compared, sum_then_built, prod_then_built, conjs_read}
use Rattle.syntax.proofs.ChainLemmas.{negs_read, terms_read, factors_read}
use Rattle.syntax.proofs.ExprSpellings.{conjs_bind, negs_bind, terms_bind, factors_bind}
use Rattle.syntax.proofs.RefusalLemmas.{passed_on, same_rest, name_alone, name_indexed, marked_atom, expr_opened}
use Rattle.syntax.proofs.RefusalLemmas.{conjs_opened, conjs_closed, conj_opened, negs_opened, negs_closed, neg_plain}
use Rattle.syntax.proofs.RefusalLemmas.{neg_denied, cmp_opened, cmp_alone, cmp_compared_to, sum_opened, terms_opened}
use Rattle.syntax.proofs.RefusalLemmas.{terms_closed, prod_opened, factors_opened, factors_closed, unary_plain}
use Rattle.syntax.proofs.RefusalLemmas.{unary_signed}
use Rattle.syntax.proofs.expressions.+expr.Goals as goal

pub atom-returns-in_ok-inner-in-Some-Mark-clause-read : goal.atom-returns-in_ok-inner-in-Some-Mark-clause-read
unfolding atom_then atom
atom-returns-in_ok-inner-in-Some-Mark-clause-read t c = record {
  spelled = c.in_ok-after-in-Some-Mark.ensures.found ∙ behind c.in_ok-inner-in-Some-Mark.ensures.spelled;
  whole = λ x r ends spelled.
      let inner = marked_atom x _ _ r (sym c.in_ok-after-in-Some-Mark.ensures.found ∙ spelled) in
      c.in_ok-inner-in-Some-Mark.ensures.whole (omega arith) inner.0 r (same_rest inner.1);
}

pub named-returns-in-None-clause-read : goal.named-returns-in-None-clause-read
unfolding atom_then atom
named-returns-in-None-clause-read t c = record {
  spelled = c.in_ok-name.ensures.found;
  whole = λ x r ends spelled.
      name_alone x _ _ r c.in-None.ensures.absent (sym c.in_ok-name.ensures.found ∙ spelled);
}

pub named-returns-in_ok-index-in-Some-clause-read : goal.named-returns-in_ok-index-in-Some-clause-read
unfolding atom_then atom
named-returns-in_ok-index-in-Some-clause-read t c = record {
  spelled = c.in_ok-name.ensures.found ∙ behind (c.in-Some.ensures.found ∙ behind c.in_ok-index-in-Some.ensures.spelled);
  whole = λ x r ends spelled.
      let index = name_indexed x _ _ r ends (sym (c.in_ok-name.ensures.found ∙ behind c.in-Some.ensures.found) ∙ spelled) in
      c.in_ok-index-in-Some.ensures.whole (omega arith) index.0 r index.1;
}

pub unary-returns-in_ok-atom-in-None-clause-read : goal.unary-returns-in_ok-atom-in-None-clause-read
unfolding unary_then
unary-returns-in_ok-atom-in-None-clause-read t c = record {
  spelled = c.in_ok-atom-in-None.ensures.read.spelled;
  whole = λ x r ends spelled.
      let inner = unary_plain x _ r c.in-None.ensures.absent spelled in
      c.in_ok-atom-in-None.ensures.read.whole inner.0 r ends inner.1;
}

pub unary-returns-in_ok-atom-in-Some-clause-read : goal.unary-returns-in_ok-atom-in-Some-clause-read
unfolding unary_then
unary-returns-in_ok-atom-in-Some-clause-read t c = record {
  spelled = c.in-Some.ensures.found ∙ behind c.in_ok-atom-in-Some.ensures.read.spelled;
  whole = λ x r ends spelled.
      let inner = unary_signed x _ r (sym c.in-Some.ensures.found ∙ spelled) in
      c.in_ok-atom-in-Some.ensures.read.whole inner.0 r ends inner.1;
}

pub neg-returns-in_ok-comparison-in-None-clause-read : goal.neg-returns-in_ok-comparison-in-None-clause-read
neg-returns-in_ok-comparison-in-None-clause-read t c = record {
  spelled = c.in_ok-comparison-in-None.ensures.read.spelled ∙ neg_then_plain _ _;
  whole = λ x r ends spelled.
      let inner = neg_plain x _ r c.in-None.ensures.absent spelled in
      c.in_ok-comparison-in-None.ensures.read.whole inner.0 r ends inner.1;
}

pub neg-returns-in_ok-comparison-in-Some-clause-read : goal.neg-returns-in_ok-comparison-in-Some-clause-read
neg-returns-in_ok-comparison-in-Some-clause-read t c = record {
  spelled = c.in-Some.ensures.found ∙ behind c.in_ok-comparison-in-Some.ensures.read.spelled ∙ neg_then_not _ _;
  whole = λ x r ends spelled.
      let inner = neg_denied x _ r (sym c.in-Some.ensures.found ∙ spelled) in
      c.in_ok-comparison-in-Some.ensures.read.whole inner.0 r ends inner.1;
}

pub cmp-returns-in-None-clause-read : goal.cmp-returns-in-None-clause-read
cmp-returns-in-None-clause-read t c = record {
  spelled = c.in_ok-left.ensures.read.spelled ∙ cmp_then_alone _ _;
  whole = λ x r ends spelled.
      let sides = cmp_opened x _ r ends spelled in
      cmp_alone sides _ c.in-None.ensures.absent (c.in_ok-left.ensures.read.whole sides.left sides.after sides.ends sides.spelled);
}

pub cmp-returns-in_ok-operand-in-Some-clause-read : goal.cmp-returns-in_ok-operand-in-Some-clause-read
cmp-returns-in_ok-operand-in-Some-clause-read t c = record {
  spelled = c.in_ok-left.ensures.read.spelled
      ∙ ap (sum_then (sum c.in_ok-left.left)) (c.in-Some.ensures.found ∙ behind c.in_ok-right-in-Some.ensures.read.spelled)
      ∙ cmp_then_compared _ _ _ _ _ c.in_ok-operand-in-Some.ensures.ok;
  whole = λ x r ends spelled.
      let sides = cmp_opened x _ r ends spelled in
      let after = c.in_ok-left.ensures.read.whole sides.left sides.after sides.ends sides.spelled in
      let right = cmp_compared_to sides _ _ ends (sym c.in-Some.ensures.found ∙ after) in
      c.in_ok-right-in-Some.ensures.read.whole right.0 r (omega (arith, ends)) right.1;
}

pub expr-returns-clause-read : goal.expr-returns-clause-read
expr-returns-clause-read t c = record {
  spelled = c.loop-after.invariant.spelled ∙ expr_then_built _ _ _;
  whole = λ x r ends spelled.
      let chain = expr_opened x _ r spelled in
      let end = c.loop-after.invariant.whole chain.0 chain.1 r ends chain.2 in
      conjs_closed end.0 _ r c.in_default.ensures.absent end.1;
}

pub conj-returns-clause-read : goal.conj-returns-clause-read
conj-returns-clause-read t c = record {
  spelled = c.loop-after.invariant.spelled ∙ conj_then_built _ _ _;
  whole = λ x r ends spelled.
      let chain = conj_opened x _ r spelled in
      let end = c.loop-after.invariant.whole chain.0 chain.1 r ends chain.2 in
      negs_closed end.0 _ r c.in_default.ensures.absent end.1;
}

pub sum-returns-clause-read : goal.sum-returns-clause-read
sum-returns-clause-read t c = record {
  spelled = c.loop-sign.invariant.spelled ∙ sum_then_built _ _ _;
  whole = λ x r ends spelled.
      let chain = sum_opened x _ r spelled in
      let end = c.loop-sign.invariant.whole chain.0 chain.1 r ends chain.2 in
      terms_closed end.0 _ r c.in_default.ensures.absent end.1;
}

pub prod-returns-clause-read : goal.prod-returns-clause-read
prod-returns-clause-read t c = record {
  spelled = c.loop-operator.invariant.spelled ∙ prod_then_built _ _ _;
  whole = λ x r ends spelled.
      let chain = prod_opened x _ r spelled in
      let end = c.loop-operator.invariant.whole chain.0 chain.1 r ends chain.2 in
      factors_closed end.0 _ r c.in_default.ensures.absent end.1;
}

pub expr-loop-after-init : goal.expr-loop-after-init
unfolding conjs_then
expr-loop-after-init t c = record {
  shorter = c.in_ok-first.ensures.shorter;
  spelled = c.in_ok-first.ensures.read.spelled
      ∙ ap (λ l. conj_then (conj c.in_ok-first.first) (conjs_then (conjs l) (plain c.in_ok-first.left.now)))
      (sym c.new-rest.ensures.items);
  whole = λ x all r ends spelled. (all, c.in_ok-first.ensures.read.whole x _ (conjs_bind all r ends) spelled);
}

pub expr-loop-after-preserved : goal.expr-loop-after-preserved
expr-loop-after-preserved t c = record {
  shorter = omega (arith, c.loop-after.invariant.shorter, c.in-Some.ensures.shorter, c.in_ok-operand.ensures.shorter);
  spelled = conjs_read _ _ _ _ _ _ _ _ c.loop-after.invariant.spelled c.in-Some.ensures.found
      c.in_ok-operand.ensures.read.spelled c.in_ok-push.ensures.items;
  whole = λ x all r ends spelled.
      let end = c.loop-after.invariant.whole x all r ends spelled in
      let operand = conjs_opened end.0 _ r ends (sym c.in-Some.ensures.found ∙ end.1) in
      (operand.1, c.in_ok-operand.ensures.read.whole operand.0 _ (conjs_bind operand.1 r ends) operand.2);
}

pub conj-loop-after-init : goal.conj-loop-after-init
unfolding negs_then
conj-loop-after-init t c = record {
  shorter = c.in_ok-first.ensures.shorter;
  spelled = c.in_ok-first.ensures.read.spelled
      ∙ ap (λ l. neg_then (neg c.in_ok-first.first) (negs_then (negs l) (plain c.in_ok-first.left.now)))
      (sym c.new-rest.ensures.items);
  whole = λ x all r ends spelled. (all, c.in_ok-first.ensures.read.whole x _ (negs_bind all r ends) spelled);
}

pub conj-loop-after-preserved : goal.conj-loop-after-preserved
conj-loop-after-preserved t c = record {
  shorter = omega (arith, c.loop-after.invariant.shorter, c.in-Some.ensures.shorter, c.in_ok-operand.ensures.shorter);
  spelled = negs_read _ _ _ _ _ _ _ _ c.loop-after.invariant.spelled c.in-Some.ensures.found
      c.in_ok-operand.ensures.read.spelled c.in_ok-push.ensures.items;
  whole = λ x all r ends spelled.
      let end = c.loop-after.invariant.whole x all r ends spelled in
      let operand = negs_opened end.0 _ r ends (sym c.in-Some.ensures.found ∙ end.1) in
      (operand.1, c.in_ok-operand.ensures.read.whole operand.0 _ (negs_bind operand.1 r ends) operand.2);
}

pub sum-loop-sign-init : goal.sum-loop-sign-init
unfolding terms_then
sum-loop-sign-init t c = record {
  shorter = c.in_ok-first.ensures.shorter;
  spelled = c.in_ok-first.ensures.read.spelled
      ∙ ap (λ l. prod_then (prod c.in_ok-first.first) (terms_then (terms l) (plain c.in_ok-first.left.now)))
      (sym c.new-rest.ensures.items);
  whole = λ x all r ends spelled. (all, c.in_ok-first.ensures.read.whole x _ (terms_bind all r ends) spelled);
}

pub sum-loop-sign-preserved : goal.sum-loop-sign-preserved
sum-loop-sign-preserved t c = record {
  shorter = omega (arith, c.loop-sign.invariant.shorter, c.in-Some.ensures.shorter, c.in_ok-operand.ensures.shorter);
  spelled = terms_read _ _ _ _ _ _ _ _ _ c.loop-sign.invariant.spelled c.in-Some.ensures.found
      c.in_ok-operand.ensures.read.spelled c.in_ok-push.ensures.items;
  whole = λ x all r ends spelled.
      let end = c.loop-sign.invariant.whole x all r ends spelled in
      let operand = terms_opened end.0 _ _ r ends (sym c.in-Some.ensures.found ∙ end.1) in
      (operand.1, c.in_ok-operand.ensures.read.whole operand.0 _ (terms_bind operand.1 r ends) operand.2);
}

pub prod-loop-operator-init : goal.prod-loop-operator-init
unfolding factors_then
prod-loop-operator-init t c = record {
  shorter = c.in_ok-first.ensures.shorter;
  spelled = c.in_ok-first.ensures.read.spelled
      ∙ ap (λ l. unary_then (unary c.in_ok-first.first) (factors_then (factors l) (plain c.in_ok-first.left.now)))
      (sym c.new-rest.ensures.items);
  whole = λ x all r ends spelled. (all, c.in_ok-first.ensures.read.whole x _ (factors_bind all r ends) spelled);
}

pub prod-loop-operator-preserved : goal.prod-loop-operator-preserved
prod-loop-operator-preserved t c = record {
  shorter = omega (arith, c.loop-operator.invariant.shorter, c.in-Some.ensures.shorter, c.in_ok-operand.ensures.shorter);
  spelled = factors_read _ _ _ _ _ _ _ _ c.loop-operator.invariant.spelled c.in-Some.ensures.found
      c.in_ok-operand.ensures.read.spelled c.in_ok-push.ensures.items;
  whole = λ x all r ends spelled.
      let end = c.loop-operator.invariant.whole x all r ends spelled in
      let operand = factors_opened end.0 _ _ r ends (sym c.in-Some.ensures.found ∙ end.1) in
      (operand.1, c.in_ok-operand.ensures.read.whole operand.0 _ (factors_bind operand.1 r ends) operand.2);
}

pub expr-returns-in_err-first-clause-refused : goal.expr-returns-in_err-first-clause-refused
expr-returns-in_err-first-clause-refused t c =
    passed_on _ _ c.from_residual.ensures.1 (λ room x r ends spelled.
    let chain = expr_opened x _ r spelled in
    c.in_err-first.ensures.refused room chain.0 _ (conjs_bind chain.1 r ends) chain.2)

pub expr-returns-in_err-operand-clause-refused : goal.expr-returns-in_err-operand-clause-refused
expr-returns-in_err-operand-clause-refused t c =
    passed_on _ _ c.from_residual-in_err-operand.ensures.1 (λ room x r ends spelled.
    let chain = expr_opened x _ r spelled in
    let end = c.loop-after.invariant.whole chain.0 chain.1 r ends chain.2 in
    let operand = conjs_opened end.0 _ r ends (sym c.in-Some.ensures.found ∙ end.1) in
    c.in_err-operand.ensures.refused room operand.0 _ (conjs_bind operand.1 r ends) operand.2)

pub conj-returns-in_err-first-clause-refused : goal.conj-returns-in_err-first-clause-refused
conj-returns-in_err-first-clause-refused t c =
    passed_on _ _ c.from_residual.ensures.1 (λ room x r ends spelled.
    let chain = conj_opened x _ r spelled in
    c.in_err-first.ensures.refused room chain.0 _ (negs_bind chain.1 r ends) chain.2)

pub conj-returns-in_err-operand-clause-refused : goal.conj-returns-in_err-operand-clause-refused
conj-returns-in_err-operand-clause-refused t c =
    passed_on _ _ c.from_residual-in_err-operand.ensures.1 (λ room x r ends spelled.
    let chain = conj_opened x _ r spelled in
    let end = c.loop-after.invariant.whole chain.0 chain.1 r ends chain.2 in
    let operand = negs_opened end.0 _ r ends (sym c.in-Some.ensures.found ∙ end.1) in
    c.in_err-operand.ensures.refused room operand.0 _ (negs_bind operand.1 r ends) operand.2)

pub sum-returns-in_err-first-clause-refused : goal.sum-returns-in_err-first-clause-refused
sum-returns-in_err-first-clause-refused t c =
    passed_on _ _ c.from_residual.ensures.1 (λ room x r ends spelled.
    let chain = sum_opened x _ r spelled in
    c.in_err-first.ensures.refused room chain.0 _ (terms_bind chain.1 r ends) chain.2)

pub sum-returns-in_err-operand-clause-refused : goal.sum-returns-in_err-operand-clause-refused
sum-returns-in_err-operand-clause-refused t c =
    passed_on _ _ c.from_residual-in_err-operand.ensures.1 (λ room x r ends spelled.
    let chain = sum_opened x _ r spelled in
    let end = c.loop-sign.invariant.whole chain.0 chain.1 r ends chain.2 in
    let operand = terms_opened end.0 _ _ r ends (sym c.in-Some.ensures.found ∙ end.1) in
    c.in_err-operand.ensures.refused room operand.0 _ (terms_bind operand.1 r ends) operand.2)

pub prod-returns-in_err-first-clause-refused : goal.prod-returns-in_err-first-clause-refused
prod-returns-in_err-first-clause-refused t c =
    passed_on _ _ c.from_residual.ensures.1 (λ room x r ends spelled.
    let chain = prod_opened x _ r spelled in
    c.in_err-first.ensures.refused room chain.0 _ (factors_bind chain.1 r ends) chain.2)

pub prod-returns-in_err-operand-clause-refused : goal.prod-returns-in_err-operand-clause-refused
prod-returns-in_err-operand-clause-refused t c =
    passed_on _ _ c.from_residual-in_err-operand.ensures.1 (λ room x r ends spelled.
    let chain = prod_opened x _ r spelled in
    let end = c.loop-operator.invariant.whole chain.0 chain.1 r ends chain.2 in
    let operand = factors_opened end.0 _ _ r ends (sym c.in-Some.ensures.found ∙ end.1) in
    c.in_err-operand.ensures.refused room operand.0 _ (factors_bind operand.1 r ends) operand.2)

pub neg-returns-in_err-comparison-in-None-clause-refused : goal.neg-returns-in_err-comparison-in-None-clause-refused
neg-returns-in_err-comparison-in-None-clause-refused t c =
    passed_on _ _ c.from_residual.ensures.1 (λ room x r ends spelled.
    let inner = neg_plain x _ r c.in-None.ensures.absent spelled in
    c.in_err-comparison-in-None.ensures.refused room inner.0 r ends inner.1)

pub neg-returns-in_err-comparison-in-Some-clause-refused : goal.neg-returns-in_err-comparison-in-Some-clause-refused
neg-returns-in_err-comparison-in-Some-clause-refused t c =
    passed_on _ _ c.from_residual-in_err-comparison-in-Some.ensures.1 (λ room x r ends spelled.
    let inner = neg_denied x _ r (sym c.in-Some.ensures.found ∙ spelled) in
    c.in_err-comparison-in-Some.ensures.refused room inner.0 r ends inner.1)

pub unary-returns-in_err-atom-in-None-clause-refused : goal.unary-returns-in_err-atom-in-None-clause-refused
unary-returns-in_err-atom-in-None-clause-refused t c =
    passed_on _ _ c.from_residual.ensures.1 (λ room x r ends spelled.
    let inner = unary_plain x _ r c.in-None.ensures.absent spelled in
    c.in_err-atom-in-None.ensures.refused room inner.0 r ends inner.1)

pub unary-returns-in_err-atom-in-Some-clause-refused : goal.unary-returns-in_err-atom-in-Some-clause-refused
unary-returns-in_err-atom-in-Some-clause-refused t c =
    passed_on _ _ c.from_residual-in_err-atom-in-Some.ensures.1 (λ room x r ends spelled.
    let inner = unary_signed x _ r (sym c.in-Some.ensures.found ∙ spelled) in
    c.in_err-atom-in-Some.ensures.refused room inner.0 r ends inner.1)

pub cmp-returns-in_err-left-clause-refused : goal.cmp-returns-in_err-left-clause-refused
cmp-returns-in_err-left-clause-refused t c =
    passed_on _ _ c.from_residual.ensures.1 (λ room x r ends spelled.
    let sides = cmp_opened x _ r ends spelled in
    c.in_err-left.ensures.refused room sides.left sides.after sides.ends sides.spelled)

pub cmp-returns-in_err-right-in-Some-clause-refused : goal.cmp-returns-in_err-right-in-Some-clause-refused
cmp-returns-in_err-right-in-Some-clause-refused t c =
    passed_on _ _ c.from_residual-in_err-right-in-Some.ensures.1 (λ room x r ends spelled.
    let sides = cmp_opened x _ r ends spelled in
    let after = c.in_ok-left.ensures.read.whole sides.left sides.after sides.ends sides.spelled in
    let right = cmp_compared_to sides _ _ ends (sym c.in-Some.ensures.found ∙ after) in
    c.in_err-right-in-Some.ensures.refused room right.0 r (omega (arith, ends)) right.1)

pub named-returns-in_err-index-in-Some-clause-refused : goal.named-returns-in_err-index-in-Some-clause-refused
named-returns-in_err-index-in-Some-clause-refused t c =
    passed_on _ _ c.from_residual-in_err-index-in-Some.ensures.1 (λ room name rest is x r ends spelled.
    let index = name_indexed x _ _ r ends (sym (c.in_ok-name.ensures.found ∙ behind c.in-Some.ensures.found) ∙ spelled) in
    c.in_err-index-in-Some.ensures.refused room (omega arith) index.0 r index.1)

pub enclosed-returns-in_err-rest-clause-refused : goal.enclosed-returns-in_err-rest-clause-refused
enclosed-returns-in_err-rest-clause-refused t c =
    passed_on _ _ c.from_residual-in_err-rest.ensures.1 (λ room loose inner r spelled.
    c.in_err-rest.ensures.refused r (c.in_ok-inner.ensures.read.whole inner (MarkToken c.args.closing ∷ r) loose spelled))

pub atom-returns-in_err-after-in-Some-Mark-clause-refused : goal.atom-returns-in_err-after-in-Some-Mark-clause-refused
atom-returns-in_err-after-in-Some-Mark-clause-refused t c =
    passed_on _ _ c.from_residual.ensures.1 (λ room x r ends spelled.
    let found = c.in-Some-Mark.ensures.found in
    let first = found.1 ∙ ap (λ s. token s ∷ found.0) c.in-Some-Mark.field-0-is in
    let inner = marked_atom x _ _ r (sym first ∙ spelled) in
    c.in_err-after-in-Some-Mark.ensures.refused _ (first ∙ inner.1))

pub atom-returns-in_err-inner-in-Some-Mark-clause-refused : goal.atom-returns-in_err-inner-in-Some-Mark-clause-refused
atom-returns-in_err-inner-in-Some-Mark-clause-refused t c =
    passed_on _ _ c.from_residual-in_err-inner-in-Some-Mark.ensures.1 (λ room x r ends spelled.
    let inner = marked_atom x _ _ r (sym c.in_ok-after-in-Some-Mark.ensures.found ∙ spelled) in
    c.in_err-inner-in-Some-Mark.ensures.refused room (omega arith) inner.0 r (same_rest inner.1))
