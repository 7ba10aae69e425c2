use Rattle.std.proofs.Common.{◌≡◌, ◌≢◌, ◌+◌, ◌<◌, ◌≤◌, [], ◌∷◌, ◌++◌, drop, length, sym, ap, ◌∙◌, subst, rules}
use Rattle.std.proofs.lemmas.List.{at_drop_all}
use Rattle.syntax_tree.specs.Tree.{expr, conj, neg, cmp, sum, prod, unary, atom, conjs, negs, negated, Parens}
use Rattle.syntax_tree.specs.declared.tree.Expr.{out-Expr}
use Rattle.syntax_tree.specs.declared.tree.Conj.{out-Conj}
use Rattle.syntax_tree.specs.declared.tree.Neg.{out-Neg}
use Rattle.syntax_tree.specs.declared.tree.Cmp.{out-Cmp}
use Rattle.syntax_tree.specs.declared.tree.Compared.{out-Compared}
use Rattle.syntax_tree.specs.declared.tree.Sum.{out-Sum}
use Rattle.syntax_tree.specs.declared.tree.Prod.{out-Prod}
use Rattle.syntax_tree.proofs.Atoms.{expr_is, conj_is, neg_is, cmp_is_alone, cmp_is_compared, sum_is, prod_is}
use Rattle.types.specs.Code.{Compare, Not, Both, Either, Also}
use Rattle.types.specs.ExpressionErrors as errors
use Rattle.types.specs.Resolution as resolution
use Rattle.types.specs.Resolving.{names_of}
use Rattle.types.specs.Told.{Told}
use Rattle.types.specs.Translation.{number, truth}
use Rattle.types.proofs.Chains.{truth-Both, truth-Either}
use Rattle.types.proofs.Expressions.{chosen, chosen_push, chosen_all, either_alone, either_chain, both_alone, both_chain}
use Rattle.types.proofs.Expressions.{truth_sum_alone, truth_prod_alone, errors-sum_alone, errors-sum_chain, errors-prod_alone}
use Rattle.types.proofs.Expressions.{errors-prod_chain, errors-negated, no_conjs, no_negs, atom_True, atom_False, atom_Parens}
use Rattle.types.proofs.Expressions.{atom_Number, atom_Name, atom_Element, atom_Length}
use Rattle.types.proofs.Telling.{at_exit, at_front, exit_left, told_right, none_both, same_right, same_code, same_error, wrong}
use Rattle.types.proofs.check.expressions.Expressions.+truth.Goals as goal

pub truth_sum-returns-then-is_empty-clause-right : goal.truth_sum-returns-then-is_empty-clause-right
truth_sum-returns-then-is_empty-clause-right t c =
    let label = c.args.self.now.label in
    let names = names_of c.args.self.now.names.now in
    let none : length (out-Sum c.args.e.now).rest.items ≡ 0 = search rules in
    same_right c.truth_prod.result (ap (errors.truth_sum label names) (sum_is c.args.e.now) ∙ errors-sum_alone label names (prod (out-Sum c.args.e.now).first) (out-Sum c.args.e.now).rest.items none) c.truth_prod.ensures.right

pub truth_sum-returns-then-is_empty-clause-code : goal.truth_sum-returns-then-is_empty-clause-code
truth_sum-returns-then-is_empty-clause-code t c =
    let label = c.args.self.now.label in
    let names = names_of c.args.self.now.names.now in
    let none : length (out-Sum c.args.e.now).rest.items ≡ 0 = search rules in
    same_code truth c.truth_prod.result (ap (resolution.truth_sum names) (sum_is c.args.e.now) ∙ truth_sum_alone names (prod (out-Sum c.args.e.now).first) (out-Sum c.args.e.now).rest.items none) c.truth_prod.ensures.code

pub truth_sum-returns-then-is_empty-clause-error : goal.truth_sum-returns-then-is_empty-clause-error
truth_sum-returns-then-is_empty-clause-error t c =
    let label = c.args.self.now.label in
    let names = names_of c.args.self.now.names.now in
    let none : length (out-Sum c.args.e.now).rest.items ≡ 0 = search rules in
    same_error c.truth_prod.result (ap (errors.truth_sum label names) (sum_is c.args.e.now) ∙ errors-sum_alone label names (prod (out-Sum c.args.e.now).first) (out-Sum c.args.e.now).rest.items none) c.truth_prod.ensures.error

pub truth_sum-returns-else-is_empty-clause-error : goal.truth_sum-returns-else-is_empty-clause-error
truth_sum-returns-else-is_empty-clause-error t c =
    let label = c.args.self.now.label in
    let names = names_of c.args.self.now.names.now in
    let some : length (out-Sum c.args.e.now).rest.items ≢ 0 = search rules in
    wrong label names _ (ap (errors.truth_sum label names) (sum_is c.args.e.now) ∙ errors-sum_chain label names (prod (out-Sum c.args.e.now).first) (out-Sum c.args.e.now).rest.items some)

pub truth_prod-returns-then-is_empty-clause-right : goal.truth_prod-returns-then-is_empty-clause-right
truth_prod-returns-then-is_empty-clause-right t c =
    let label = c.args.self.now.label in
    let names = names_of c.args.self.now.names.now in
    let none : length (out-Prod c.args.e.now).rest.items ≡ 0 = search rules in
    same_right c.truth_unary.result (ap (errors.truth_prod label names) (prod_is c.args.e.now) ∙ errors-prod_alone label names (unary (out-Prod c.args.e.now).first) (out-Prod c.args.e.now).rest.items none) c.truth_unary.ensures.right

pub truth_prod-returns-then-is_empty-clause-code : goal.truth_prod-returns-then-is_empty-clause-code
truth_prod-returns-then-is_empty-clause-code t c =
    let label = c.args.self.now.label in
    let names = names_of c.args.self.now.names.now in
    let none : length (out-Prod c.args.e.now).rest.items ≡ 0 = search rules in
    same_code truth c.truth_unary.result (ap (resolution.truth_prod names) (prod_is c.args.e.now) ∙ truth_prod_alone names (unary (out-Prod c.args.e.now).first) (out-Prod c.args.e.now).rest.items none) c.truth_unary.ensures.code

pub truth_prod-returns-then-is_empty-clause-error : goal.truth_prod-returns-then-is_empty-clause-error
truth_prod-returns-then-is_empty-clause-error t c =
    let label = c.args.self.now.label in
    let names = names_of c.args.self.now.names.now in
    let none : length (out-Prod c.args.e.now).rest.items ≡ 0 = search rules in
    same_error c.truth_unary.result (ap (errors.truth_prod label names) (prod_is c.args.e.now) ∙ errors-prod_alone label names (unary (out-Prod c.args.e.now).first) (out-Prod c.args.e.now).rest.items none) c.truth_unary.ensures.error

pub truth_prod-returns-else-is_empty-clause-error : goal.truth_prod-returns-else-is_empty-clause-error
truth_prod-returns-else-is_empty-clause-error t c =
    let label = c.args.self.now.label in
    let names = names_of c.args.self.now.names.now in
    let some : length (out-Prod c.args.e.now).rest.items ≢ 0 = search rules in
    wrong label names _ (ap (errors.truth_prod label names) (prod_is c.args.e.now) ∙ errors-prod_chain label names (unary (out-Prod c.args.e.now).first) (out-Prod c.args.e.now).rest.items some)

pub truth_atom-returns-in-True-clause-right : goal.truth_atom-returns-in-True-clause-right
truth_atom-returns-in-True-clause-right t c =
    let label = c.args.self.now.label in
    let names = names_of c.args.self.now.names.now in
    ap (errors.truth_atom label names) (ap atom c.in-True.is ∙ atom_True)

pub truth_atom-returns-in-True-clause-code : goal.truth_atom-returns-in-True-clause-code
truth_atom-returns-in-True-clause-code t c =
    let label = c.args.self.now.label in
    let names = names_of c.args.self.now.names.now in
    ap (resolution.truth_atom names) (ap atom c.in-True.is ∙ atom_True)

pub truth_atom-returns-in-False-clause-right : goal.truth_atom-returns-in-False-clause-right
truth_atom-returns-in-False-clause-right t c =
    let label = c.args.self.now.label in
    let names = names_of c.args.self.now.names.now in
    ap (errors.truth_atom label names) (ap atom c.in-False.is ∙ atom_False)

pub truth_atom-returns-in-False-clause-code : goal.truth_atom-returns-in-False-clause-code
truth_atom-returns-in-False-clause-code t c =
    let label = c.args.self.now.label in
    let names = names_of c.args.self.now.names.now in
    ap (resolution.truth_atom names) (ap atom c.in-False.is ∙ atom_False)

pub truth_atom-returns-in-Parens-clause-right : goal.truth_atom-returns-in-Parens-clause-right
truth_atom-returns-in-Parens-clause-right t c =
    let label = c.args.self.now.label in
    let names = names_of c.args.self.now.names.now in
    let is : atom c.args.e.now ≡ Parens (expr c.deref.result.now) =
    ap atom c.in-Parens.is ∙ atom_Parens c.in-Parens.inner ∙ ap (λ x. Parens (expr x)) (sym c.deref.ensures) in
    same_right c.truth.result (ap (errors.truth_atom label names) is) c.truth.ensures.right

pub truth_atom-returns-in-Parens-clause-code : goal.truth_atom-returns-in-Parens-clause-code
truth_atom-returns-in-Parens-clause-code t c =
    let label = c.args.self.now.label in
    let names = names_of c.args.self.now.names.now in
    let is : atom c.args.e.now ≡ Parens (expr c.deref.result.now) =
    ap atom c.in-Parens.is ∙ atom_Parens c.in-Parens.inner ∙ ap (λ x. Parens (expr x)) (sym c.deref.ensures) in
    same_code truth c.truth.result (ap (resolution.truth_atom names) is) c.truth.ensures.code

pub truth_atom-returns-in-Parens-clause-error : goal.truth_atom-returns-in-Parens-clause-error
truth_atom-returns-in-Parens-clause-error t c =
    let label = c.args.self.now.label in
    let names = names_of c.args.self.now.names.now in
    let is : atom c.args.e.now ≡ Parens (expr c.deref.result.now) =
    ap atom c.in-Parens.is ∙ atom_Parens c.in-Parens.inner ∙ ap (λ x. Parens (expr x)) (sym c.deref.ensures) in
    same_error c.truth.result (ap (errors.truth_atom label names) is) c.truth.ensures.error

pub truth_atom-returns-in-Number-clause-error : goal.truth_atom-returns-in-Number-clause-error
truth_atom-returns-in-Number-clause-error t c =
    let label = c.args.self.now.label in
    let names = names_of c.args.self.now.names.now in
    wrong label names _ (ap (errors.truth_atom label names) (ap atom c.in-Number.is ∙ atom_Number c.in-Number.field-0))

pub truth_atom-returns-in-Name-clause-error : goal.truth_atom-returns-in-Name-clause-error
truth_atom-returns-in-Name-clause-error t c =
    let label = c.args.self.now.label in
    let names = names_of c.args.self.now.names.now in
    wrong label names _ (ap (errors.truth_atom label names) (ap atom c.in-Name.is ∙ atom_Name c.in-Name.field-0))

pub truth_atom-returns-in-Element-clause-error : goal.truth_atom-returns-in-Element-clause-error
truth_atom-returns-in-Element-clause-error t c =
    let label = c.args.self.now.label in
    let names = names_of c.args.self.now.names.now in
    wrong label names _ (ap (errors.truth_atom label names) (ap atom c.in-Element.is ∙ atom_Element c.in-Element.section c.in-Element.index))

pub truth_atom-returns-in-Length-clause-error : goal.truth_atom-returns-in-Length-clause-error
truth_atom-returns-in-Length-clause-error t c =
    let label = c.args.self.now.label in
    let names = names_of c.args.self.now.names.now in
    wrong label names _ (ap (errors.truth_atom label names) (ap atom c.in-Length.is ∙ atom_Length c.in-Length.field-0))

pub truth_cmp-returns-in-None-clause-right : goal.truth_cmp-returns-in-None-clause-right
truth_cmp-returns-in-None-clause-right t c =
    let label = c.args.self.now.label in
    let names = names_of c.args.self.now.names.now in
    same_right c.truth_sum.result (ap (errors.truth_cmp label names) (cmp_is_alone c.args.e.now c.in-None.is)) c.truth_sum.ensures.right

pub truth_cmp-returns-in-None-clause-code : goal.truth_cmp-returns-in-None-clause-code
truth_cmp-returns-in-None-clause-code t c =
    let label = c.args.self.now.label in
    let names = names_of c.args.self.now.names.now in
    same_code truth c.truth_sum.result (ap (resolution.truth_cmp names) (cmp_is_alone c.args.e.now c.in-None.is)) c.truth_sum.ensures.code

pub truth_cmp-returns-in-None-clause-error : goal.truth_cmp-returns-in-None-clause-error
truth_cmp-returns-in-None-clause-error t c =
    let label = c.args.self.now.label in
    let names = names_of c.args.self.now.names.now in
    same_error c.truth_sum.result (ap (errors.truth_cmp label names) (cmp_is_alone c.args.e.now c.in-None.is)) c.truth_sum.ensures.error

pub truth_cmp-returns-in_err-left-in-Some-clause-error : goal.truth_cmp-returns-in_err-left-in-Some-clause-error
truth_cmp-returns-in_err-left-in-Some-clause-error t c =
    let label = c.args.self.now.label in
    let names = names_of c.args.self.now.names.now in
    let e = c.in_err-left-in-Some.field-0.0 in
    exit_left c.from_residual.result e c.from_residual.ensures.1 _ _
    (ap (errors.truth_cmp label names) (cmp_is_compared c.args.e.now c.in-Some.compared c.in-Some.is)) c.in_err-left-in-Some.ensures.error

pub truth_cmp-returns-in_err-right-in-Some-clause-error : goal.truth_cmp-returns-in_err-right-in-Some-clause-error
truth_cmp-returns-in_err-right-in-Some-clause-error t c =
    let label = c.args.self.now.label in
    let names = names_of c.args.self.now.names.now in
    let e = c.in_err-right-in-Some.field-0.0 in
    at_exit (Told (errors.truth_cmp label names (cmp c.args.e.now))) c.from_residual-in_err-right-in-Some.result e c.from_residual-in_err-right-in-Some.ensures.1
    (subst (λ xs. Told xs e) (sym (ap (errors.truth_cmp label names) (cmp_is_compared c.args.e.now c.in-Some.compared c.in-Some.is))) (told_right (errors.number_sum label names (sum (out-Cmp c.args.e.now).left)) _ e (subst (λ s. Told (errors.number_sum label names (sum s)) e) c.deref.ensures c.in_err-right-in-Some.ensures.error)))

pub truth_cmp-returns-in_ok-right-in-Some-clause-right : goal.truth_cmp-returns-in_ok-right-in-Some-clause-right
truth_cmp-returns-in_ok-right-in-Some-clause-right t c =
    let label = c.args.self.now.label in
    let names = names_of c.args.self.now.names.now in
    ap (errors.truth_cmp label names) (cmp_is_compared c.args.e.now c.in-Some.compared c.in-Some.is) ∙ none_both _ _ c.in_ok-left-in-Some.ensures.right (ap (λ s. errors.number_sum label names (sum s)) (sym c.deref.ensures) ∙ c.in_ok-right-in-Some.ensures.right)

pub truth_cmp-returns-in_ok-right-in-Some-clause-code : goal.truth_cmp-returns-in_ok-right-in-Some-clause-code
truth_cmp-returns-in_ok-right-in-Some-clause-code t c =
    let label = c.args.self.now.label in
    let names = names_of c.args.self.now.names.now in
    let relation = (out-Compared c.in-Some.compared).relation in
    ap (resolution.truth_cmp names) (cmp_is_compared c.args.e.now c.in-Some.compared c.in-Some.is)
    ∙ ap (λ n. Compare relation n (resolution.number_sum names (sum (out-Compared c.in-Some.compared).right.value))) c.in_ok-left-in-Some.ensures.code
    ∙ ap (Compare relation (number c.in_ok-left-in-Some.left)) (ap (λ s. resolution.number_sum names (sum s)) (sym c.deref.ensures) ∙ c.in_ok-right-in-Some.ensures.code)

pub truth_neg-returns-in_err-value-clause-error : goal.truth_neg-returns-in_err-value-clause-error
truth_neg-returns-in_err-value-clause-error t c =
    let label = c.args.self.now.label in
    let names = names_of c.args.self.now.names.now in
    let e = c.in_err-value.field-0.0 in
    at_exit (Told (errors.truth_neg label names (neg c.args.e.now))) c.from_residual.result e c.from_residual.ensures.1
    (subst (λ xs. Told xs e) (sym (ap (errors.truth_neg label names) (neg_is c.args.e.now) ∙ errors-negated label names (out-Neg c.args.e.now).negated (cmp (out-Neg c.args.e.now).comparison))) (c.in_err-value.ensures.error))

pub truth_neg-returns-in_ok-value-2-clause-right : goal.truth_neg-returns-in_ok-value-2-clause-right
truth_neg-returns-in_ok-value-2-clause-right t c =
    let label = c.args.self.now.label in
    let names = names_of c.args.self.now.names.now in
    ap (errors.truth_neg label names) (neg_is c.args.e.now ∙ ap (λ b. negated b (cmp (out-Neg c.args.e.now).comparison)) c.if-e.true) ∙ c.in_ok-value.ensures.right

pub truth_neg-returns-in_ok-value-2-clause-code : goal.truth_neg-returns-in_ok-value-2-clause-code
truth_neg-returns-in_ok-value-2-clause-code t c =
    let label = c.args.self.now.label in
    let names = names_of c.args.self.now.names.now in
    ap (resolution.truth_neg names) (neg_is c.args.e.now ∙ ap (λ b. negated b (cmp (out-Neg c.args.e.now).comparison)) c.if-e.true) ∙ ap Not (c.in_ok-value.ensures.code ∙ ap truth (sym c.in_ok-value-2.ensures.ok))

pub truth_neg-returns-else-e-clause-right : goal.truth_neg-returns-else-e-clause-right
truth_neg-returns-else-e-clause-right t c =
    let label = c.args.self.now.label in
    let names = names_of c.args.self.now.names.now in
    ap (errors.truth_neg label names) (neg_is c.args.e.now ∙ ap (λ b. negated b (cmp (out-Neg c.args.e.now).comparison)) c.if-e.false) ∙ c.in_ok-value.ensures.right

pub truth_neg-returns-else-e-clause-code : goal.truth_neg-returns-else-e-clause-code
truth_neg-returns-else-e-clause-code t c =
    let label = c.args.self.now.label in
    let names = names_of c.args.self.now.names.now in
    ap (resolution.truth_neg names) (neg_is c.args.e.now ∙ ap (λ b. negated b (cmp (out-Neg c.args.e.now).comparison)) c.if-e.false) ∙ c.in_ok-value.ensures.code

pub truth-returns-in_err-first-clause-error : goal.truth-returns-in_err-first-clause-error
truth-returns-in_err-first-clause-error t c =
    let label = c.args.self.now.label in
    let names = names_of c.args.self.now.names.now in
    let e = c.in_err-first.field-0.0 in
    exit_left c.from_residual.result e c.from_residual.ensures.1 _ _
    (ap (errors.truth label names) (expr_is c.args.e.now)) c.in_err-first.ensures.error

pub truth-returns-then-is_empty-clause-right : goal.truth-returns-then-is_empty-clause-right
truth-returns-then-is_empty-clause-right t c =
    let label = c.args.self.now.label in
    let names = names_of c.args.self.now.names.now in
    let none : length (out-Expr c.args.e.now).rest.items ≡ 0 = search rules in
    ap (errors.truth label names) (expr_is c.args.e.now) ∙ none_both _ _ c.in_ok-first.ensures.right (ap (errors.conjs label names) (no_conjs (out-Expr c.args.e.now).rest.items none))

pub truth-returns-then-is_empty-clause-code : goal.truth-returns-then-is_empty-clause-code
truth-returns-then-is_empty-clause-code t c =
    let label = c.args.self.now.label in
    let names = names_of c.args.self.now.names.now in
    let none : length (out-Expr c.args.e.now).rest.items ≡ 0 = search rules in
    ap (resolution.truth names) (expr_is c.args.e.now) ∙ either_alone names (conj (out-Expr c.args.e.now).first) (out-Expr c.args.e.now).rest.items none ∙ c.in_ok-first.ensures.code

pub truth-loop-conj-init : goal.truth-loop-conj-init
truth-loop-conj-init t c =
    let label = c.args.self.now.label in
    let names = names_of c.args.self.now.names.now in
    let rest = resolution.conjs names (conjs c.deref-conj-items.result.now) in
    record {
      right = ap (errors.truth label names) (expr_is c.args.e.now) ∙ ap (λ l. l ++ errors.conjs label names (conjs (out-Expr c.args.e.now).rest.items)) c.in_ok-first.ensures.right
          ∙ ap (λ l. errors.conjs label names (conjs l)) (sym c.deref-conj-items.ensures.value);
      code = ap (λ ts. chosen ts rest) (c.in_ok-push.ensures.items ∙ ap (λ ts. ts ++ c.in_ok-first.first ∷ []) c.new-parts.ensures.items)
          ∙ ap (λ u. Also u rest) (sym c.in_ok-first.ensures.code);
    }

pub truth-returns-in_err-part-clause-error : goal.truth-returns-in_err-part-clause-error
truth-returns-in_err-part-clause-error t c =
    let label = c.args.self.now.label in
    let names = names_of c.args.self.now.names.now in
    let xs = c.deref-conj-items.result.now in
    let i = c.loop-conj.conj-index in
    let x = c.conj-item.result in
    let inside : i < length xs = search rules in
    let front = at_front conjs xs i x inside c.conj-item.is in
    let e = c.in_err-part.field-0.0 in
    exit_left c.from_residual-in_err-part.result e c.from_residual-in_err-part.ensures.1 _ _
    (c.loop-conj.invariant.right ∙ ap (errors.conjs label names) front) c.in_err-part.ensures.error

pub truth-loop-conj-preserved : goal.truth-loop-conj-preserved
truth-loop-conj-preserved t c =
    let label = c.args.self.now.label in
    let names = names_of c.args.self.now.names.now in
    let xs = c.deref-conj-items.result.now in
    let i = c.loop-conj.conj-index in
    let x = c.conj-item.result in
    let inside : i < length xs = search rules in
    let front = at_front conjs xs i x inside c.conj-item.is in
    let rest = resolution.conjs names (conjs (drop (i + 1) xs)) in
    record {
      right = c.loop-conj.invariant.right ∙ ap (errors.conjs label names) front ∙ ap (λ l. l ++ errors.conjs label names (conjs (drop (i + 1) xs))) c.in_ok-part.ensures.right;
      code = ap (λ ts. chosen ts rest) c.in_ok-push-2.ensures.items ∙ sym (chosen_push c.loop-conj.parts.items c.in_ok-part.part rest)
          ∙ ap (chosen c.loop-conj.parts.items) (sym (ap (resolution.conjs names) front ∙ ap (λ u. Also u rest) c.in_ok-part.ensures.code))
          ∙ c.loop-conj.invariant.code;
    }

pub truth-returns-clause-right : goal.truth-returns-clause-right
truth-returns-clause-right t c =
    let label = c.args.self.now.label in
    let names = names_of c.args.self.now.names.now in
    let xs = c.deref-conj-items.result.now in
    let i = c.loop-conj.conj-index in
    let at_end : length xs ≤ i = search rules in
    c.loop-conj.invariant.right ∙ ap (errors.conjs label names) (at_drop_all conjs xs i at_end)

pub truth-returns-clause-code : goal.truth-returns-clause-code
truth-returns-clause-code t c =
    let label = c.args.self.now.label in
    let names = names_of c.args.self.now.names.now in
    let xs = c.deref-conj-items.result.now in
    let i = c.loop-conj.conj-index in
    let at_end : length xs ≤ i = search rules in
    let some : length (out-Expr c.args.e.now).rest.items ≢ 0 = search rules in
    ap (resolution.truth names) (expr_is c.args.e.now) ∙ either_chain names (conj (out-Expr c.args.e.now).first) (out-Expr c.args.e.now).rest.items some
    ∙ ap Either (ap (λ l. Also (resolution.truth_conj names (conj (out-Expr c.args.e.now).first)) (resolution.conjs names (conjs l))) (sym c.deref-conj-items.ensures.value)
    ∙ sym c.loop-conj.invariant.code ∙ ap (λ l. chosen c.loop-conj.parts.items (resolution.conjs names l)) (at_drop_all conjs xs i at_end)
    ∙ chosen_all c.loop-conj.parts.items)
    ∙ sym (truth-Either c.loop-conj.parts)

pub truth_conj-returns-in_err-first-clause-error : goal.truth_conj-returns-in_err-first-clause-error
truth_conj-returns-in_err-first-clause-error t c =
    let label = c.args.self.now.label in
    let names = names_of c.args.self.now.names.now in
    let e = c.in_err-first.field-0.0 in
    exit_left c.from_residual.result e c.from_residual.ensures.1 _ _
    (ap (errors.truth_conj label names) (conj_is c.args.e.now)) c.in_err-first.ensures.error

pub truth_conj-returns-then-is_empty-clause-right : goal.truth_conj-returns-then-is_empty-clause-right
truth_conj-returns-then-is_empty-clause-right t c =
    let label = c.args.self.now.label in
    let names = names_of c.args.self.now.names.now in
    let none : length (out-Conj c.args.e.now).rest.items ≡ 0 = search rules in
    ap (errors.truth_conj label names) (conj_is c.args.e.now) ∙ none_both _ _ c.in_ok-first.ensures.right (ap (errors.negs label names) (no_negs (out-Conj c.args.e.now).rest.items none))

pub truth_conj-returns-then-is_empty-clause-code : goal.truth_conj-returns-then-is_empty-clause-code
truth_conj-returns-then-is_empty-clause-code t c =
    let label = c.args.self.now.label in
    let names = names_of c.args.self.now.names.now in
    let none : length (out-Conj c.args.e.now).rest.items ≡ 0 = search rules in
    ap (resolution.truth_conj names) (conj_is c.args.e.now) ∙ both_alone names (neg (out-Conj c.args.e.now).first) (out-Conj c.args.e.now).rest.items none ∙ c.in_ok-first.ensures.code

pub truth_conj-loop-neg-init : goal.truth_conj-loop-neg-init
truth_conj-loop-neg-init t c =
    let label = c.args.self.now.label in
    let names = names_of c.args.self.now.names.now in
    let rest = resolution.negs names (negs c.deref-neg-items.result.now) in
    record {
      right = ap (errors.truth_conj label names) (conj_is c.args.e.now) ∙ ap (λ l. l ++ errors.negs label names (negs (out-Conj c.args.e.now).rest.items)) c.in_ok-first.ensures.right
          ∙ ap (λ l. errors.negs label names (negs l)) (sym c.deref-neg-items.ensures.value);
      code = ap (λ ts. chosen ts rest) (c.in_ok-push.ensures.items ∙ ap (λ ts. ts ++ c.in_ok-first.first ∷ []) c.new-parts.ensures.items)
          ∙ ap (λ u. Also u rest) (sym c.in_ok-first.ensures.code);
    }

pub truth_conj-returns-in_err-part-clause-error : goal.truth_conj-returns-in_err-part-clause-error
truth_conj-returns-in_err-part-clause-error t c =
    let label = c.args.self.now.label in
    let names = names_of c.args.self.now.names.now in
    let xs = c.deref-neg-items.result.now in
    let i = c.loop-neg.neg-index in
    let x = c.neg-item.result in
    let inside : i < length xs = search rules in
    let front = at_front negs xs i x inside c.neg-item.is in
    let e = c.in_err-part.field-0.0 in
    exit_left c.from_residual-in_err-part.result e c.from_residual-in_err-part.ensures.1 _ _
    (c.loop-neg.invariant.right ∙ ap (errors.negs label names) front) c.in_err-part.ensures.error

pub truth_conj-loop-neg-preserved : goal.truth_conj-loop-neg-preserved
truth_conj-loop-neg-preserved t c =
    let label = c.args.self.now.label in
    let names = names_of c.args.self.now.names.now in
    let xs = c.deref-neg-items.result.now in
    let i = c.loop-neg.neg-index in
    let x = c.neg-item.result in
    let inside : i < length xs = search rules in
    let front = at_front negs xs i x inside c.neg-item.is in
    let rest = resolution.negs names (negs (drop (i + 1) xs)) in
    record {
      right = c.loop-neg.invariant.right ∙ ap (errors.negs label names) front ∙ ap (λ l. l ++ errors.negs label names (negs (drop (i + 1) xs))) c.in_ok-part.ensures.right;
      code = ap (λ ts. chosen ts rest) c.in_ok-push-2.ensures.items ∙ sym (chosen_push c.loop-neg.parts.items c.in_ok-part.part rest)
          ∙ ap (chosen c.loop-neg.parts.items) (sym (ap (resolution.negs names) front ∙ ap (λ u. Also u rest) c.in_ok-part.ensures.code))
          ∙ c.loop-neg.invariant.code;
    }

pub truth_conj-returns-clause-right : goal.truth_conj-returns-clause-right
truth_conj-returns-clause-right t c =
    let label = c.args.self.now.label in
    let names = names_of c.args.self.now.names.now in
    let xs = c.deref-neg-items.result.now in
    let i = c.loop-neg.neg-index in
    let at_end : length xs ≤ i = search rules in
    c.loop-neg.invariant.right ∙ ap (errors.negs label names) (at_drop_all negs xs i at_end)

pub truth_conj-returns-clause-code : goal.truth_conj-returns-clause-code
truth_conj-returns-clause-code t c =
    let label = c.args.self.now.label in
    let names = names_of c.args.self.now.names.now in
    let xs = c.deref-neg-items.result.now in
    let i = c.loop-neg.neg-index in
    let at_end : length xs ≤ i = search rules in
    let some : length (out-Conj c.args.e.now).rest.items ≢ 0 = search rules in
    ap (resolution.truth_conj names) (conj_is c.args.e.now) ∙ both_chain names (neg (out-Conj c.args.e.now).first) (out-Conj c.args.e.now).rest.items some
    ∙ ap Both (ap (λ l. Also (resolution.truth_neg names (neg (out-Conj c.args.e.now).first)) (resolution.negs names (negs l))) (sym c.deref-neg-items.ensures.value)
    ∙ sym c.loop-neg.invariant.code ∙ ap (λ l. chosen c.loop-neg.parts.items (resolution.negs names l)) (at_drop_all negs xs i at_end)
    ∙ chosen_all c.loop-neg.parts.items)
    ∙ sym (truth-Both c.loop-neg.parts)
