use Rattle.std.proofs.Common.{◌≡◌, if◌then◌else◌, [], ◌++◌, codes, refl, ap, sym, ◌∙◌, rules, append-nil}
use Rattle.std.specs.String.{string_bytes}
use Rattle.syntax_tree.specs.declared.tree.Expr.{out-Expr}
use Rattle.syntax_tree.specs.declared.tree.Conj.{out-Conj}
use Rattle.syntax_tree.specs.declared.tree.Neg.{out-Neg}
use Rattle.syntax_tree.specs.declared.tree.Sum.{out-Sum}
use Rattle.syntax_tree.specs.declared.tree.Prod.{out-Prod}
use Rattle.syntax.specs.Canonical.{in_line}
use Rattle.syntax.specs.Spelling.{expr_then, conj_then, neg_then, sum_then, prod_then, unary_then, atom_then}
use Rattle.syntax_tree.specs.Tree.{expr, conj, neg, sum, prod, unary, atom}
use Rattle.syntax.proofs.ExpressionText.{then_adds, adds_part, adds_next, adds_last, pushed, then_ok, ok_adds_equal, conjs_text}
use Rattle.syntax.proofs.ExpressionText.{conjs_text_more, conjs_text_none, negs_text, negs_text_more, negs_text_none}
use Rattle.syntax.proofs.ExpressionText.{terms_text, terms_text_more, terms_text_none, factors_text, factors_text_more}
use Rattle.syntax.proofs.ExpressionText.{factors_text_none, expr_text, conj_text, neg_text, cmp_text_alone}
use Rattle.syntax.proofs.ExpressionText.{cmp_text_compared, sum_text, prod_text, unary_text, atom_text_Number}
use Rattle.syntax.proofs.ExpressionText.{atom_text_True, atom_text_False, atom_text_Name, atom_text_Element}
use Rattle.syntax.proofs.ExpressionText.{atom_text_Length, atom_text_Parens}
use Rattle.syntax.proofs.expression_text.+expr.Goals as goal
use Rattle.syntax.proofs.expression_text.+expr.Goals.{neg-then-e+in_ok-push_str, neg-else-e, unary-then-e+in_ok-push, unary-else-e}

pub expr-loop-operand-init : goal.expr-loop-operand-init
expr-loop-operand-init t c =
    let parts = expr_text c.args.e.now
    ∙ ap (λ l. in_line (conj_then (conj (out-Expr c.args.e.now).first) []) ++ conjs_text l) (sym
    c.deref-operand-items.ensures.value) in
    adds_part (string_bytes c.args.out.now) _ (conjs_text c.deref-operand-items.result.now) refl c.in_ok-conj.ensures parts

pub expr-loop-operand-preserved : goal.expr-loop-operand-preserved
expr-loop-operand-preserved t c =
    let old = string_bytes c.loop-operand.out in
    let added = then_adds old _ _ c.in_ok-push_str.ensures.bytes c.in_ok-conj-2.ensures in
    adds_next conjs_text conjs_text c.deref-operand-items.result.now c.loop-operand.operand-index old _ c.operand-item.is
    (search rules) c.loop-operand.invariant added (conjs_text_more _ _)

pub expr-returns : goal.expr-returns
expr-returns t c =
    adds_last conjs_text c.deref-operand-items.result.now c.loop-operand.operand-index (string_bytes c.loop-operand.out)
    (search rules) c.loop-operand.invariant conjs_text_none

pub conj-loop-operand-init : goal.conj-loop-operand-init
conj-loop-operand-init t c =
    let parts = conj_text c.args.e.now
    ∙ ap (λ l. in_line (neg_then (neg (out-Conj c.args.e.now).first) []) ++ negs_text l) (sym c.deref-operand-items.ensures.value) in
    adds_part (string_bytes c.args.out.now) _ (negs_text c.deref-operand-items.result.now) refl c.in_ok-neg.ensures parts

pub conj-loop-operand-preserved : goal.conj-loop-operand-preserved
conj-loop-operand-preserved t c =
    let old = string_bytes c.loop-operand.out in
    let added = then_adds old _ _ c.in_ok-push_str.ensures.bytes c.in_ok-neg-2.ensures in
    adds_next negs_text negs_text c.deref-operand-items.result.now c.loop-operand.operand-index old _ c.operand-item.is
    (search rules) c.loop-operand.invariant added (negs_text_more _ _)

pub conj-returns : goal.conj-returns
conj-returns t c =
    adds_last negs_text c.deref-operand-items.result.now c.loop-operand.operand-index (string_bytes c.loop-operand.out)
    (search rules) c.loop-operand.invariant negs_text_none

pub neg-returns : goal.neg-returns
neg-returns t c =
    let old = string_bytes c.args.out.now in
    let added : string_bytes c.if-e.out ≡ old ++ (if (out-Neg c.args.e.now).negated then codes "not " else []) =
    elim c.if-e.branch [
      | neg-then-e+in_ok-push_str w ↦ ap string_bytes w.out-is ∙ w.in_ok-push_str.ensures.bytes
          ∙ ap (λ b. old ++ (if b then codes "not " else [])) (sym w.if-e.true)
      | neg-else-e w ↦ ap string_bytes w.out-is ∙ sym (append-nil old)
          ∙ ap (λ b. old ++ (if b then codes "not " else [])) (sym w.if-e.false)
    ] in
    ok_adds_equal _ old _ (then_ok _ old _ _ _ added c.cmp.ensures) (neg_text c.args.e.now)

pub cmp-returns-in-None : goal.cmp-returns-in-None
cmp-returns-in-None t c =
    c.in_ok-sum.ensures ∙ ap (λ l. string_bytes c.args.out.now ++ l) (sym (cmp_text_alone c.args.e.now c.in-None.is))

pub cmp-returns-in_ok-push_str-in-Some : goal.cmp-returns-in_ok-push_str-in-Some
cmp-returns-in_ok-push_str-in-Some t c =
    let old = string_bytes c.args.out.now in
    let between = string_bytes c.sum.new.out in
    let mark = ◌∙◌ {b = between ++ c.relation.result.now} c.in_ok-push_str-in-Some.ensures.bytes
    (ap (λ l. between ++ l) c.relation.ensures) in
    let marked = string_bytes c.push_str.new.self in
    let right = ok_adds_equal _ marked _ c.sum-in-Some.ensures (sym (ap (λ e. in_line (sum_then (sum e) [])) c.deref.ensures)) in
    ok_adds_equal _ old _ (then_ok _ old _ _ _ c.in_ok-sum.ensures (then_ok _ between _ _ _ mark right)) (cmp_text_compared
    c.args.e.now c.in-Some.compared c.in-Some.is)

pub sum-loop-term-init : goal.sum-loop-term-init
sum-loop-term-init t c =
    let parts = sum_text c.args.e.now
    ∙ ap (λ l. in_line (prod_then (prod (out-Sum c.args.e.now).first) []) ++ terms_text l) (sym c.deref-term-items.ensures.value) in
    adds_part (string_bytes c.args.out.now) _ (terms_text c.deref-term-items.result.now) refl c.in_ok-prod.ensures parts

pub sum-loop-term-preserved : goal.sum-loop-term-preserved
sum-loop-term-preserved t c =
    let old = string_bytes c.loop-term.out in
    let mark = ◌∙◌ {b = old ++ c.sign.result.now} c.in_ok-push_str.ensures.bytes (ap (λ l. old ++ l) c.sign.ensures) in
    let added = then_adds old _ _ mark c.in_ok-prod-2.ensures in
    adds_next terms_text terms_text c.deref-term-items.result.now c.loop-term.term-index old _ c.term-item.is
    (search rules) c.loop-term.invariant added (terms_text_more _ _)

pub sum-returns : goal.sum-returns
sum-returns t c =
    adds_last terms_text c.deref-term-items.result.now c.loop-term.term-index (string_bytes c.loop-term.out)
    (search rules) c.loop-term.invariant terms_text_none

pub prod-loop-factor-init : goal.prod-loop-factor-init
prod-loop-factor-init t c =
    let parts = prod_text c.args.e.now
    ∙ ap (λ l. in_line (unary_then (unary (out-Prod c.args.e.now).first) []) ++ factors_text l) (sym
    c.deref-factor-items.ensures.value) in
    adds_part (string_bytes c.args.out.now) _ (factors_text c.deref-factor-items.result.now) refl c.in_ok-unary.ensures parts

pub prod-loop-factor-preserved : goal.prod-loop-factor-preserved
prod-loop-factor-preserved t c =
    let old = string_bytes c.loop-factor.out in
    let mark = ◌∙◌ {b = old ++ c.operator.result.now} c.in_ok-push_str.ensures.bytes (ap (λ l. old ++ l) c.operator.ensures) in
    let added = then_adds old _ _ mark c.in_ok-unary-2.ensures in
    adds_next factors_text factors_text c.deref-factor-items.result.now c.loop-factor.factor-index old _ c.factor-item.is
    (search rules) c.loop-factor.invariant added (factors_text_more _ _)

pub prod-returns : goal.prod-returns
prod-returns t c =
    adds_last factors_text c.deref-factor-items.result.now c.loop-factor.factor-index (string_bytes c.loop-factor.out)
    (search rules) c.loop-factor.invariant factors_text_none

pub unary-returns : goal.unary-returns
unfolding lib.Utf8.encode
unary-returns t c =
    let old = string_bytes c.args.out.now in
    let added : string_bytes c.if-e.out ≡ old ++ (if c.args.e.now.negative then codes "-" else []) =
    elim c.if-e.branch [
      | unary-then-e+in_ok-push w ↦ ap string_bytes w.out-is ∙ w.in_ok-push.ensures.bytes
          ∙ ap (λ b. old ++ (if b then codes "-" else [])) (sym w.if-e.true)
      | unary-else-e w ↦ ap string_bytes w.out-is ∙ sym (append-nil old) ∙ ap (λ b. old ++ (if b then codes "-" else [])) (sym w.if-e.false)
    ] in
    ok_adds_equal _ old _ (then_ok _ old _ _ _ added c.atom.ensures) (unary_text c.args.e.now.negative (atom c.args.e.now.atom))

pub atom-returns-in-Number : goal.atom-returns-in-Number
atom-returns-in-Number t c =
    let is = ap (λ a. in_line (atom_then (atom a) [])) c.in-Number.is ∙ atom_text_Number c.in-Number.value in
    ok_adds_equal _ (string_bytes c.args.out.now) _ c.write.ensures.bytes is

pub atom-returns-in-True : goal.atom-returns-in-True
atom-returns-in-True t c =
    let is = ap (λ a. in_line (atom_then (atom a) [])) c.in-True.is ∙ atom_text_True in
    ok_adds_equal _ (string_bytes c.args.out.now) _ (pushed _ _ _ _ c.push_str.ensures.bytes) is

pub atom-returns-in-False : goal.atom-returns-in-False
atom-returns-in-False t c =
    let is = ap (λ a. in_line (atom_then (atom a) [])) c.in-False.is ∙ atom_text_False in
    ok_adds_equal _ (string_bytes c.args.out.now) _ (pushed _ _ _ _ c.push_str-in-False.ensures.bytes) is

pub atom-returns-in-Name : goal.atom-returns-in-Name
atom-returns-in-Name t c =
    let is = ap (λ a. in_line (atom_then (atom a) [])) c.in-Name.is ∙ atom_text_Name c.in-Name.name ∙ sym c.as_str.ensures.value in
    ok_adds_equal _ (string_bytes c.args.out.now) _ (pushed _ _ _ _ c.push_str-in-Name.ensures.bytes) is

pub atom-returns-in_ok-expr-in-Element : goal.atom-returns-in_ok-expr-in-Element
unfolding lib.Utf8.encode
atom-returns-in_ok-expr-in-Element t c =
    let old = string_bytes c.args.out.now in
    let name = c.in_ok-push_str-in-Element.ensures.bytes ∙ ap (λ l. old ++ l) c.as_str-in-Element.ensures.value in
    let opened = string_bytes c.push_str-in-Element.new.self in
    let inside = string_bytes c.push.new.self in
    let index = c.in_ok-expr-in-Element.ensures ∙ ap (λ e. inside ++ in_line (expr_then (expr e) [])) c.deref.ensures in
    let is = ap (λ a. in_line (atom_then (atom a) [])) c.in-Element.is ∙ atom_text_Element c.in-Element.section c.in-Element.index in
    ok_adds_equal _ old _ (then_ok _ old _ _ _ name (then_ok _ opened _ _ _ c.in_ok-push-in-Element.ensures.bytes (then_ok _ inside _ _ _ index
    (pushed _ _ _ _ c.push-in-Element.ensures.bytes)))) is

pub atom-returns-in_ok-push_str-in-Length-2 : goal.atom-returns-in_ok-push_str-in-Length-2
unfolding lib.Utf8.encode
atom-returns-in_ok-push_str-in-Length-2 t c =
    let old = string_bytes c.args.out.now in
    let between = string_bytes c.push_str-in-Length.new.self in
    let name = c.in_ok-push_str-in-Length-2.ensures.bytes ∙ ap (λ l. between ++ l) c.as_str-in-Length.ensures.value in
    let is = ap (λ a. in_line (atom_then (atom a) [])) c.in-Length.is ∙ atom_text_Length c.in-Length.section in
    ok_adds_equal _ old _ (then_ok _ old _ _ _ c.in_ok-push_str-in-Length.ensures.bytes (then_ok _ between _ _ _ name (pushed _ _ _ _
    c.push-in-Length.ensures.bytes))) is

pub atom-returns-in_ok-expr-in-Parens : goal.atom-returns-in_ok-expr-in-Parens
unfolding lib.Utf8.encode
atom-returns-in_ok-expr-in-Parens t c =
    let old = string_bytes c.args.out.now in
    let inside = string_bytes c.push-in-Parens.new.self in
    let index = c.in_ok-expr-in-Parens.ensures ∙ ap (λ e. inside ++ in_line (expr_then (expr e) [])) c.deref-in-Parens.ensures in
    let is = ap (λ a. in_line (atom_then (atom a) [])) c.in-Parens.is ∙ atom_text_Parens c.in-Parens.inner in
    ok_adds_equal _ old _ (then_ok _ old _ _ _ c.in_ok-push-in-Parens.ensures.bytes (then_ok _ inside _ _ _ index (pushed _ _ _ _
    c.push-in-Parens-2.ensures.bytes))) is
