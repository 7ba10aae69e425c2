use Rattle.std.proofs.Common.{◌≡◌, ◌≢◌, ◌+◌, ◌<◌, ◌≤◌, ◌++◌, drop, length, sym, ap, ◌∙◌, subst, rules}
use Rattle.std.proofs.lemmas.List.{at_drop_all}
use Rattle.std.specs.String.{string_bytes}
use Rattle.syntax_tree.specs.Tree.{expr, conj, neg, cmp, prod, unary, atom, terms, factors, negated}
use Rattle.syntax_tree.specs.Tree.{Number as Number_of, Name, Element, Length, Parens}
use Rattle.syntax_tree.specs.declared.tree.Expr.{out-Expr}
use Rattle.syntax_tree.specs.declared.tree.Conj.{out-Conj}
use Rattle.syntax_tree.specs.declared.tree.Neg.{out-Neg}
use Rattle.syntax_tree.specs.declared.tree.Sum.{out-Sum}
use Rattle.syntax_tree.specs.declared.tree.Term.{out-Term}
use Rattle.syntax_tree.specs.declared.tree.Prod.{out-Prod}
use Rattle.syntax_tree.proofs.Atoms.{expr_is, conj_is, neg_is, cmp_is_alone, sum_is, prod_is}
use Rattle.types.specs.Code.{Scalar, Element as Element_at, Length as Length_at, Chain, Link}
use Rattle.types.specs.declared.code.Link.{Link as rLink}
use Rattle.types.specs.ExpressionErrors as errors
use Rattle.types.specs.NameErrors.{naming_section}
use Rattle.types.specs.Resolution as resolution
use Rattle.types.specs.Resolving.{names_of}
use Rattle.types.specs.Scope.{meant, section_or_0, slot_or_0}
use Rattle.types.specs.Told.{Told}
use Rattle.types.specs.Translation.{number}
use Rattle.types.proofs.Chains.{number-Chain}
use Rattle.types.proofs.Expressions.{linked, linked_push, linked_all, sum_alone, sum_chain, terms_more, prod_alone, prod_chain}
use Rattle.types.proofs.Expressions.{number_alone, conj_alone, errors-terms_more, errors-of_expr_alone, errors-of_expr_chain}
use Rattle.types.proofs.Expressions.{errors-of_conj_alone, errors-of_conj_chain, errors-of_neg_plain, errors-of_neg_denied}
use Rattle.types.proofs.Expressions.{errors-of_cmp_alone, errors-of_cmp_compared, errors-of_sum, errors-of_prod, no_terms, no_factors}
use Rattle.types.proofs.Expressions.{atom_Number, atom_Name, atom_Element, atom_Length, atom_Parens, errors-of_truth_value}
use Rattle.types.proofs.Telling.{at_exit, at_front, exit_left, told_right, none_both, same_right, same_code, same_error, wrong}
use Rattle.types.proofs.check.expressions.Expressions.+number.Goals as goal

pub number-returns-then-is_empty-clause-right : goal.number-returns-then-is_empty-clause-right
number-returns-then-is_empty-clause-right t c =
    let label = c.args.self.now.label in
    let names = names_of c.args.self.now.names.now in
    let none : length (out-Expr c.args.e.now).rest.items ≡ 0 = search rules in
    same_right c.number_conj.result (errors-of_expr_alone label names c.args.e.now none) c.number_conj.ensures.right

pub number-returns-then-is_empty-clause-code : goal.number-returns-then-is_empty-clause-code
number-returns-then-is_empty-clause-code t c =
    let label = c.args.self.now.label in
    let names = names_of c.args.self.now.names.now in
    let none : length (out-Expr c.args.e.now).rest.items ≡ 0 = search rules in
    same_code number c.number_conj.result (ap (resolution.number names) (expr_is c.args.e.now) ∙ number_alone names (conj (out-Expr c.args.e.now).first) (out-Expr c.args.e.now).rest.items none) c.number_conj.ensures.code

pub number-returns-then-is_empty-clause-error : goal.number-returns-then-is_empty-clause-error
number-returns-then-is_empty-clause-error t c =
    let label = c.args.self.now.label in
    let names = names_of c.args.self.now.names.now in
    let none : length (out-Expr c.args.e.now).rest.items ≡ 0 = search rules in
    same_error c.number_conj.result (errors-of_expr_alone label names c.args.e.now none) c.number_conj.ensures.error

pub number-returns-else-is_empty-clause-error : goal.number-returns-else-is_empty-clause-error
number-returns-else-is_empty-clause-error t c =
    let label = c.args.self.now.label in
    let names = names_of c.args.self.now.names.now in
    let some : length (out-Expr c.args.e.now).rest.items ≢ 0 = search rules in
    wrong label names _ (errors-of_expr_chain label names c.args.e.now some)

pub number_conj-returns-then-is_empty-clause-right : goal.number_conj-returns-then-is_empty-clause-right
number_conj-returns-then-is_empty-clause-right t c =
    let label = c.args.self.now.label in
    let names = names_of c.args.self.now.names.now in
    let none : length (out-Conj c.args.e.now).rest.items ≡ 0 = search rules in
    same_right c.number_neg.result (errors-of_conj_alone label names c.args.e.now none) c.number_neg.ensures.right

pub number_conj-returns-then-is_empty-clause-code : goal.number_conj-returns-then-is_empty-clause-code
number_conj-returns-then-is_empty-clause-code t c =
    let label = c.args.self.now.label in
    let names = names_of c.args.self.now.names.now in
    let none : length (out-Conj c.args.e.now).rest.items ≡ 0 = search rules in
    same_code number c.number_neg.result (ap (resolution.number_conj names) (conj_is c.args.e.now) ∙ conj_alone names (neg (out-Conj c.args.e.now).first) (out-Conj c.args.e.now).rest.items none) c.number_neg.ensures.code

pub number_conj-returns-then-is_empty-clause-error : goal.number_conj-returns-then-is_empty-clause-error
number_conj-returns-then-is_empty-clause-error t c =
    let label = c.args.self.now.label in
    let names = names_of c.args.self.now.names.now in
    let none : length (out-Conj c.args.e.now).rest.items ≡ 0 = search rules in
    same_error c.number_neg.result (errors-of_conj_alone label names c.args.e.now none) c.number_neg.ensures.error

pub number_conj-returns-else-is_empty-clause-error : goal.number_conj-returns-else-is_empty-clause-error
number_conj-returns-else-is_empty-clause-error t c =
    let label = c.args.self.now.label in
    let names = names_of c.args.self.now.names.now in
    let some : length (out-Conj c.args.e.now).rest.items ≢ 0 = search rules in
    wrong label names _ (errors-of_conj_chain label names c.args.e.now some)

pub number_neg-returns-else-e-clause-right : goal.number_neg-returns-else-e-clause-right
number_neg-returns-else-e-clause-right t c =
    let label = c.args.self.now.label in
    let names = names_of c.args.self.now.names.now in
    same_right c.number_cmp.result (errors-of_neg_plain label names c.args.e.now c.if-e.false) c.number_cmp.ensures.right

pub number_neg-returns-else-e-clause-code : goal.number_neg-returns-else-e-clause-code
number_neg-returns-else-e-clause-code t c =
    let label = c.args.self.now.label in
    let names = names_of c.args.self.now.names.now in
    same_code number c.number_cmp.result (ap (resolution.number_neg names) (neg_is c.args.e.now) ∙ ap (λ b. resolution.number_neg names (negated b (cmp (out-Neg c.args.e.now).comparison))) c.if-e.false) c.number_cmp.ensures.code

pub number_neg-returns-else-e-clause-error : goal.number_neg-returns-else-e-clause-error
number_neg-returns-else-e-clause-error t c =
    let label = c.args.self.now.label in
    let names = names_of c.args.self.now.names.now in
    same_error c.number_cmp.result (errors-of_neg_plain label names c.args.e.now c.if-e.false) c.number_cmp.ensures.error

pub number_neg-returns-then-e-clause-error : goal.number_neg-returns-then-e-clause-error
number_neg-returns-then-e-clause-error t c =
    let label = c.args.self.now.label in
    let names = names_of c.args.self.now.names.now in
    wrong label names _ (errors-of_neg_denied label names c.args.e.now c.if-e.true)

pub number_cmp-returns-in-None-clause-right : goal.number_cmp-returns-in-None-clause-right
number_cmp-returns-in-None-clause-right t c =
    let label = c.args.self.now.label in
    let names = names_of c.args.self.now.names.now in
    same_right c.number_sum.result (errors-of_cmp_alone label names c.args.e.now c.in-None.is) c.number_sum.ensures.right

pub number_cmp-returns-in-None-clause-code : goal.number_cmp-returns-in-None-clause-code
number_cmp-returns-in-None-clause-code t c =
    let label = c.args.self.now.label in
    let names = names_of c.args.self.now.names.now in
    same_code number c.number_sum.result (ap (resolution.number_cmp names) (cmp_is_alone c.args.e.now c.in-None.is)) c.number_sum.ensures.code

pub number_cmp-returns-in-None-clause-error : goal.number_cmp-returns-in-None-clause-error
number_cmp-returns-in-None-clause-error t c =
    let label = c.args.self.now.label in
    let names = names_of c.args.self.now.names.now in
    same_error c.number_sum.result (errors-of_cmp_alone label names c.args.e.now c.in-None.is) c.number_sum.ensures.error

pub number_cmp-returns-in-Some-clause-error : goal.number_cmp-returns-in-Some-clause-error
number_cmp-returns-in-Some-clause-error t c =
    let label = c.args.self.now.label in
    let names = names_of c.args.self.now.names.now in
    wrong label names _ (errors-of_cmp_compared label names c.args.e.now c.in-Some.field-0 c.in-Some.is)

pub number_atom-returns-in-Number-clause-right : goal.number_atom-returns-in-Number-clause-right
number_atom-returns-in-Number-clause-right t c =
    let label = c.args.self.now.label in
    let names = names_of c.args.self.now.names.now in
    let is : atom c.args.e.now ≡ Number_of c.in-Number.value = ap atom c.in-Number.is ∙ atom_Number c.in-Number.value in
    same_right c.literal.result (ap (errors.number_atom label names) is) c.literal.ensures.right

pub number_atom-returns-in-Number-clause-code : goal.number_atom-returns-in-Number-clause-code
number_atom-returns-in-Number-clause-code t c =
    let label = c.args.self.now.label in
    let names = names_of c.args.self.now.names.now in
    let is : atom c.args.e.now ≡ Number_of c.in-Number.value = ap atom c.in-Number.is ∙ atom_Number c.in-Number.value in
    same_code number c.literal.result (ap (resolution.number_atom names) is) c.literal.ensures.code

pub number_atom-returns-in-Number-clause-error : goal.number_atom-returns-in-Number-clause-error
number_atom-returns-in-Number-clause-error t c =
    let label = c.args.self.now.label in
    let names = names_of c.args.self.now.names.now in
    let is : atom c.args.e.now ≡ Number_of c.in-Number.value = ap atom c.in-Number.is ∙ atom_Number c.in-Number.value in
    same_error c.literal.result (ap (errors.number_atom label names) is) c.literal.ensures.error

pub number_atom-returns-in-Parens-clause-right : goal.number_atom-returns-in-Parens-clause-right
number_atom-returns-in-Parens-clause-right t c =
    let label = c.args.self.now.label in
    let names = names_of c.args.self.now.names.now in
    let is : atom c.args.e.now ≡ Parens (expr c.deref-in-Parens.result.now) = ap atom c.in-Parens.is ∙ atom_Parens c.in-Parens.inner ∙ ap (λ x. Parens (expr x)) (sym c.deref-in-Parens.ensures) in
    same_right c.number-in-Parens.result (ap (errors.number_atom label names) is) c.number-in-Parens.ensures.right

pub number_atom-returns-in-Parens-clause-code : goal.number_atom-returns-in-Parens-clause-code
number_atom-returns-in-Parens-clause-code t c =
    let label = c.args.self.now.label in
    let names = names_of c.args.self.now.names.now in
    let is : atom c.args.e.now ≡ Parens (expr c.deref-in-Parens.result.now) = ap atom c.in-Parens.is ∙ atom_Parens c.in-Parens.inner ∙ ap (λ x. Parens (expr x)) (sym c.deref-in-Parens.ensures) in
    same_code number c.number-in-Parens.result (ap (resolution.number_atom names) is) c.number-in-Parens.ensures.code

pub number_atom-returns-in-Parens-clause-error : goal.number_atom-returns-in-Parens-clause-error
number_atom-returns-in-Parens-clause-error t c =
    let label = c.args.self.now.label in
    let names = names_of c.args.self.now.names.now in
    let is : atom c.args.e.now ≡ Parens (expr c.deref-in-Parens.result.now) = ap atom c.in-Parens.is ∙ atom_Parens c.in-Parens.inner ∙ ap (λ x. Parens (expr x)) (sym c.deref-in-Parens.ensures) in
    same_error c.number-in-Parens.result (ap (errors.number_atom label names) is) c.number-in-Parens.ensures.error

pub number_atom-returns-in_err-slot-in-Name-clause-error : goal.number_atom-returns-in_err-slot-in-Name-clause-error
number_atom-returns-in_err-slot-in-Name-clause-error t c =
    let label = c.args.self.now.label in
    let names = names_of c.args.self.now.names.now in
    let is : atom c.args.e.now ≡ Name (string_bytes c.in-Name.name) = ap atom c.in-Name.is ∙ atom_Name c.in-Name.name in
    let e = c.in_err-slot-in-Name.field-0.0 in
    at_exit (Told (errors.number_atom label names (atom c.args.e.now))) c.from_residual.result e c.from_residual.ensures.1
    (subst (λ xs. Told xs e) (sym (ap (errors.number_atom label names) is)) (c.in_err-slot-in-Name.ensures.error))

pub number_atom-returns-in_err-section-in-Element-clause-error : goal.number_atom-returns-in_err-section-in-Element-clause-error
number_atom-returns-in_err-section-in-Element-clause-error t c =
    let label = c.args.self.now.label in
    let names = names_of c.args.self.now.names.now in
    let is : atom c.args.e.now ≡ Element (string_bytes c.in-Element.section) (expr c.in-Element.index.value) = ap atom c.in-Element.is ∙ atom_Element c.in-Element.section c.in-Element.index in
    let e = c.in_err-section-in-Element.field-0.0 in
    exit_left c.from_residual-in_err-section-in-Element.result e c.from_residual-in_err-section-in-Element.ensures.1 _ _
    (ap (errors.number_atom label names) is) c.in_err-section-in-Element.ensures.error

pub number_atom-returns-in_err-index-in-Element-clause-error : goal.number_atom-returns-in_err-index-in-Element-clause-error
number_atom-returns-in_err-index-in-Element-clause-error t c =
    let label = c.args.self.now.label in
    let names = names_of c.args.self.now.names.now in
    let is : atom c.args.e.now ≡ Element (string_bytes c.in-Element.section) (expr c.deref.result.now) =
    ap atom c.in-Element.is ∙ atom_Element c.in-Element.section c.in-Element.index
    ∙ ap (λ x. Element (string_bytes c.in-Element.section) (expr x)) (sym c.deref.ensures) in
    let e = c.in_err-index-in-Element.field-0.0 in
    at_exit (Told (errors.number_atom label names (atom c.args.e.now))) c.from_residual-in_err-index-in-Element.result e c.from_residual-in_err-index-in-Element.ensures.1
    (subst (λ xs. Told xs e) (sym (ap (errors.number_atom label names) is)) (told_right (naming_section label (meant (string_bytes c.in-Element.section) names)) _ e c.in_err-index-in-Element.ensures.error))

pub number_atom-returns-in_err-section-in-Length-clause-error : goal.number_atom-returns-in_err-section-in-Length-clause-error
number_atom-returns-in_err-section-in-Length-clause-error t c =
    let label = c.args.self.now.label in
    let names = names_of c.args.self.now.names.now in
    let is : atom c.args.e.now ≡ Length (string_bytes c.in-Length.section) = ap atom c.in-Length.is ∙ atom_Length c.in-Length.section in
    let e = c.in_err-section-in-Length.field-0.0 in
    at_exit (Told (errors.number_atom label names (atom c.args.e.now))) c.from_residual-in_err-section-in-Length.result e c.from_residual-in_err-section-in-Length.ensures.1
    (subst (λ xs. Told xs e) (sym (ap (errors.number_atom label names) is)) (c.in_err-section-in-Length.ensures.error))

pub number_atom-returns-in_ok-slot-in-Name-clause-right : goal.number_atom-returns-in_ok-slot-in-Name-clause-right
number_atom-returns-in_ok-slot-in-Name-clause-right t c =
    let label = c.args.self.now.label in
    let names = names_of c.args.self.now.names.now in
    let is : atom c.args.e.now ≡ Name (string_bytes c.in-Name.name) = ap atom c.in-Name.is ∙ atom_Name c.in-Name.name in
    ap (errors.number_atom label names) is ∙ c.in_ok-slot-in-Name.ensures.right

pub number_atom-returns-in_ok-slot-in-Name-clause-code : goal.number_atom-returns-in_ok-slot-in-Name-clause-code
number_atom-returns-in_ok-slot-in-Name-clause-code t c =
    let label = c.args.self.now.label in
    let names = names_of c.args.self.now.names.now in
    let is : atom c.args.e.now ≡ Name (string_bytes c.in-Name.name) = ap atom c.in-Name.is ∙ atom_Name c.in-Name.name in
    ap (resolution.number_atom names) is ∙ ap (λ m. Scalar (slot_or_0 m)) c.in_ok-slot-in-Name.ensures.meaning

pub number_atom-returns-in_ok-index-in-Element-2-clause-right : goal.number_atom-returns-in_ok-index-in-Element-2-clause-right
number_atom-returns-in_ok-index-in-Element-2-clause-right t c =
    let label = c.args.self.now.label in
    let names = names_of c.args.self.now.names.now in
    let is : atom c.args.e.now ≡ Element (string_bytes c.in-Element.section) (expr c.deref.result.now) =
    ap atom c.in-Element.is ∙ atom_Element c.in-Element.section c.in-Element.index
    ∙ ap (λ x. Element (string_bytes c.in-Element.section) (expr x)) (sym c.deref.ensures) in
    ap (errors.number_atom label names) is ∙ none_both _ _ c.in_ok-section-in-Element.ensures.right c.in_ok-index-in-Element.ensures.right

pub number_atom-returns-in_ok-index-in-Element-2-clause-code : goal.number_atom-returns-in_ok-index-in-Element-2-clause-code
number_atom-returns-in_ok-index-in-Element-2-clause-code t c =
    let label = c.args.self.now.label in
    let names = names_of c.args.self.now.names.now in
    let is : atom c.args.e.now ≡ Element (string_bytes c.in-Element.section) (expr c.deref.result.now) =
    ap atom c.in-Element.is ∙ atom_Element c.in-Element.section c.in-Element.index
    ∙ ap (λ x. Element (string_bytes c.in-Element.section) (expr x)) (sym c.deref.ensures) in
    ap (resolution.number_atom names) is ∙ ap (λ m. Element_at (section_or_0 m) (resolution.number names (expr c.deref.result.now))) c.in_ok-section-in-Element.ensures.meaning
    ∙ ap (Element_at c.in_ok-section-in-Element.section.number) (c.in_ok-index-in-Element.ensures.code ∙ ap number (sym c.in_ok-index-in-Element-2.ensures.ok))

pub number_atom-returns-in_ok-section-in-Length-clause-right : goal.number_atom-returns-in_ok-section-in-Length-clause-right
number_atom-returns-in_ok-section-in-Length-clause-right t c =
    let label = c.args.self.now.label in
    let names = names_of c.args.self.now.names.now in
    let is : atom c.args.e.now ≡ Length (string_bytes c.in-Length.section) = ap atom c.in-Length.is ∙ atom_Length c.in-Length.section in
    ap (errors.number_atom label names) is ∙ c.in_ok-section-in-Length.ensures.right

pub number_atom-returns-in_ok-section-in-Length-clause-code : goal.number_atom-returns-in_ok-section-in-Length-clause-code
number_atom-returns-in_ok-section-in-Length-clause-code t c =
    let label = c.args.self.now.label in
    let names = names_of c.args.self.now.names.now in
    let is : atom c.args.e.now ≡ Length (string_bytes c.in-Length.section) = ap atom c.in-Length.is ∙ atom_Length c.in-Length.section in
    ap (resolution.number_atom names) is ∙ ap (λ m. Length_at (section_or_0 m)) c.in_ok-section-in-Length.ensures.meaning

-- both booleans are one arm
pub number_atom-returns-in-True-clause-error : goal.number_atom-returns-in-True-clause-error
number_atom-returns-in-True-clause-error t c =
    let label = c.args.self.now.label in
    let names = names_of c.args.self.now.names.now in
    wrong label names _ (errors-of_truth_value label names c.args.e.now c.in-True.is)

pub number_prod-returns-in_err-first-clause-error : goal.number_prod-returns-in_err-first-clause-error
number_prod-returns-in_err-first-clause-error t c =
    let label = c.args.self.now.label in
    let names = names_of c.args.self.now.names.now in
    let e = c.in_err-first.field-0.0 in
    exit_left c.from_residual.result e c.from_residual.ensures.1 _ _
    (errors-of_prod label names c.args.e.now) c.in_err-first.ensures.error

pub number_prod-returns-then-is_empty-clause-right : goal.number_prod-returns-then-is_empty-clause-right
number_prod-returns-then-is_empty-clause-right t c =
    let label = c.args.self.now.label in
    let names = names_of c.args.self.now.names.now in
    let none : length (out-Prod c.args.e.now).rest.items ≡ 0 = search rules in
    errors-of_prod label names c.args.e.now ∙ none_both _ _ c.in_ok-first.ensures.right (ap (errors.factors label names) (no_factors (out-Prod c.args.e.now).rest.items none))

pub number_prod-returns-then-is_empty-clause-code : goal.number_prod-returns-then-is_empty-clause-code
number_prod-returns-then-is_empty-clause-code t c =
    let label = c.args.self.now.label in
    let names = names_of c.args.self.now.names.now in
    let none : length (out-Prod c.args.e.now).rest.items ≡ 0 = search rules in
    ap (resolution.number_prod names) (prod_is c.args.e.now) ∙ prod_alone names _ (out-Prod c.args.e.now).rest.items none ∙ c.in_ok-first.ensures.code

pub number_prod-loop-factor-init : goal.number_prod-loop-factor-init
number_prod-loop-factor-init t c =
    let label = c.args.self.now.label in
    let names = names_of c.args.self.now.names.now in
    record {
      right = errors-of_prod label names c.args.e.now ∙ ap (λ l. l ++ errors.factors label names (factors (out-Prod c.args.e.now).rest.items)) c.in_ok-first.ensures.right
          ∙ ap (λ l. errors.factors label names (factors l)) (sym c.deref-factor-items.ensures.value);
      code = ap (λ ls. linked ls (resolution.factors names (factors c.deref-factor-items.result.now))) c.new-rest.ensures.items;
      first = c.in_ok-first.ensures.code;
    }

pub number_prod-returns-in_err-operand-clause-error : goal.number_prod-returns-in_err-operand-clause-error
number_prod-returns-in_err-operand-clause-error t c =
    let label = c.args.self.now.label in
    let names = names_of c.args.self.now.names.now in
    let xs = c.deref-factor-items.result.now in
    let i = c.loop-factor.factor-index in
    let x = c.factor-item.result in
    let inside : i < length xs = search rules in
    let front = at_front factors xs i x inside c.factor-item.is in
    let e = c.in_err-operand.field-0.0 in
    exit_left c.from_residual-in_err-operand.result e c.from_residual-in_err-operand.ensures.1 _ _
    (c.loop-factor.invariant.right ∙ ap (errors.factors label names) front) c.in_err-operand.ensures.error

pub number_prod-loop-factor-preserved : goal.number_prod-loop-factor-preserved
number_prod-loop-factor-preserved t c =
    let label = c.args.self.now.label in
    let names = names_of c.args.self.now.names.now in
    let xs = c.deref-factor-items.result.now in
    let i = c.loop-factor.factor-index in
    let x = c.factor-item.result in
    let inside : i < length xs = search rules in
    let front = at_front factors xs i x inside c.factor-item.is in
    let rest = resolution.factors names (factors (drop (i + 1) xs)) in
    let made : rLink = record { operator = c.of_operator-operator.result; operand = c.in_ok-operand.operand } in
    record {
      right = c.loop-factor.invariant.right ∙ ap (errors.factors label names) front ∙ ap (λ l. l ++ errors.factors label names (factors (drop (i + 1) xs))) c.in_ok-operand.ensures.right;
      code = ap (λ ls. linked ls rest) c.in_ok-push.ensures.items ∙ sym (linked_push c.loop-factor.rest.items made rest)
          ∙ ap (linked c.loop-factor.rest.items) (sym (ap (resolution.factors names) front ∙ ap (λ o. Link o (resolution.number_unary names (unary x.operand)) rest) (sym c.of_operator-operator.ensures)
          ∙ ap (λ n. Link c.of_operator-operator.result n rest) c.in_ok-operand.ensures.code))
          ∙ c.loop-factor.invariant.code;
      first = c.loop-factor.invariant.first;
    }

pub number_prod-returns-clause-right : goal.number_prod-returns-clause-right
number_prod-returns-clause-right t c =
    let label = c.args.self.now.label in
    let names = names_of c.args.self.now.names.now in
    let xs = c.deref-factor-items.result.now in
    let i = c.loop-factor.factor-index in
    let at_end : length xs ≤ i = search rules in
    c.loop-factor.invariant.right ∙ ap (errors.factors label names) (at_drop_all factors xs i at_end)

pub number_prod-returns-clause-code : goal.number_prod-returns-clause-code
number_prod-returns-clause-code t c =
    let label = c.args.self.now.label in
    let names = names_of c.args.self.now.names.now in
    let xs = c.deref-factor-items.result.now in
    let i = c.loop-factor.factor-index in
    let at_end : length xs ≤ i = search rules in
    let some : length (out-Prod c.args.e.now).rest.items ≢ 0 = search rules in
    ap (resolution.number_prod names) (prod_is c.args.e.now) ∙ prod_chain names _ (out-Prod c.args.e.now).rest.items some
    ∙ ap (λ n. Chain n (resolution.factors names (factors (out-Prod c.args.e.now).rest.items))) (c.loop-factor.invariant.first ∙ ap number (sym c.in_ok-first-2.ensures.ok))
    ∙ ap (Chain (number c.in_ok-first-2.first.value)) (ap (λ l. resolution.factors names (factors l)) (sym c.deref-factor-items.ensures.value)
    ∙ sym c.loop-factor.invariant.code ∙ ap (λ l. linked c.loop-factor.rest.items (resolution.factors names l)) (at_drop_all factors xs i at_end)
    ∙ linked_all c.loop-factor.rest.items)
    ∙ sym (number-Chain c.in_ok-first-2.first c.loop-factor.rest)

pub number_sum-returns-in_err-first-clause-error : goal.number_sum-returns-in_err-first-clause-error
number_sum-returns-in_err-first-clause-error t c =
    let label = c.args.self.now.label in
    let names = names_of c.args.self.now.names.now in
    let e = c.in_err-first.field-0.0 in
    exit_left c.from_residual.result e c.from_residual.ensures.1 _ _
    (errors-of_sum label names c.args.e.now) c.in_err-first.ensures.error

pub number_sum-returns-then-is_empty-clause-right : goal.number_sum-returns-then-is_empty-clause-right
number_sum-returns-then-is_empty-clause-right t c =
    let label = c.args.self.now.label in
    let names = names_of c.args.self.now.names.now in
    let none : length (out-Sum c.args.e.now).rest.items ≡ 0 = search rules in
    errors-of_sum label names c.args.e.now ∙ none_both _ _ c.in_ok-first.ensures.right (ap (errors.terms label names) (no_terms (out-Sum c.args.e.now).rest.items none))

pub number_sum-returns-then-is_empty-clause-code : goal.number_sum-returns-then-is_empty-clause-code
number_sum-returns-then-is_empty-clause-code t c =
    let label = c.args.self.now.label in
    let names = names_of c.args.self.now.names.now in
    let none : length (out-Sum c.args.e.now).rest.items ≡ 0 = search rules in
    ap (resolution.number_sum names) (sum_is c.args.e.now) ∙ sum_alone names _ (out-Sum c.args.e.now).rest.items none ∙ c.in_ok-first.ensures.code

pub number_sum-loop-term-init : goal.number_sum-loop-term-init
number_sum-loop-term-init t c =
    let label = c.args.self.now.label in
    let names = names_of c.args.self.now.names.now in
    record {
      right = errors-of_sum label names c.args.e.now ∙ ap (λ l. l ++ errors.terms label names (terms (out-Sum c.args.e.now).rest.items)) c.in_ok-first.ensures.right
          ∙ ap (λ l. errors.terms label names (terms l)) (sym c.deref-term-items.ensures.value);
      code = ap (λ ls. linked ls (resolution.terms names (terms c.deref-term-items.result.now))) c.new-rest.ensures.items;
      first = c.in_ok-first.ensures.code;
    }

pub number_sum-returns-in_err-operand-clause-error : goal.number_sum-returns-in_err-operand-clause-error
number_sum-returns-in_err-operand-clause-error t c =
    let label = c.args.self.now.label in
    let names = names_of c.args.self.now.names.now in
    let xs = c.deref-term-items.result.now in
    let i = c.loop-term.term-index in
    let x = c.term-item.result in
    let inside : i < length xs = search rules in
    let front = at_front terms xs i x inside c.term-item.is in
    let e = c.in_err-operand.field-0.0 in
    exit_left c.from_residual-in_err-operand.result e c.from_residual-in_err-operand.ensures.1 _ _
    (c.loop-term.invariant.right ∙ ap (errors.terms label names) front ∙ errors-terms_more label names x (drop (i + 1) xs)) c.in_err-operand.ensures.error

pub number_sum-loop-term-preserved : goal.number_sum-loop-term-preserved
number_sum-loop-term-preserved t c =
    let label = c.args.self.now.label in
    let names = names_of c.args.self.now.names.now in
    let xs = c.deref-term-items.result.now in
    let i = c.loop-term.term-index in
    let x = c.term-item.result in
    let inside : i < length xs = search rules in
    let front = at_front terms xs i x inside c.term-item.is in
    let rest = resolution.terms names (terms (drop (i + 1) xs)) in
    let made : rLink = record { operator = c.of_sign-operator.result; operand = c.in_ok-operand.operand } in
    record {
      right = c.loop-term.invariant.right ∙ ap (errors.terms label names) front ∙ errors-terms_more label names x (drop (i + 1) xs) ∙ ap (λ l. l ++ errors.terms label names (terms (drop (i + 1) xs))) c.in_ok-operand.ensures.right;
      code = ap (λ ls. linked ls rest) c.in_ok-push.ensures.items ∙ sym (linked_push c.loop-term.rest.items made rest)
          ∙ ap (linked c.loop-term.rest.items) (sym (ap (resolution.terms names) front ∙ terms_more names x (drop (i + 1) xs) ∙ ap (λ o. Link o (resolution.number_prod names (prod (out-Term x).operand)) rest) (sym c.of_sign-operator.ensures)
          ∙ ap (λ n. Link c.of_sign-operator.result n rest) c.in_ok-operand.ensures.code))
          ∙ c.loop-term.invariant.code;
      first = c.loop-term.invariant.first;
    }

pub number_sum-returns-clause-right : goal.number_sum-returns-clause-right
number_sum-returns-clause-right t c =
    let label = c.args.self.now.label in
    let names = names_of c.args.self.now.names.now in
    let xs = c.deref-term-items.result.now in
    let i = c.loop-term.term-index in
    let at_end : length xs ≤ i = search rules in
    c.loop-term.invariant.right ∙ ap (errors.terms label names) (at_drop_all terms xs i at_end)

pub number_sum-returns-clause-code : goal.number_sum-returns-clause-code
number_sum-returns-clause-code t c =
    let label = c.args.self.now.label in
    let names = names_of c.args.self.now.names.now in
    let xs = c.deref-term-items.result.now in
    let i = c.loop-term.term-index in
    let at_end : length xs ≤ i = search rules in
    let some : length (out-Sum c.args.e.now).rest.items ≢ 0 = search rules in
    ap (resolution.number_sum names) (sum_is c.args.e.now) ∙ sum_chain names _ (out-Sum c.args.e.now).rest.items some
    ∙ ap (λ n. Chain n (resolution.terms names (terms (out-Sum c.args.e.now).rest.items))) (c.loop-term.invariant.first ∙ ap number (sym c.in_ok-first-2.ensures.ok))
    ∙ ap (Chain (number c.in_ok-first-2.first.value)) (ap (λ l. resolution.terms names (terms l)) (sym c.deref-term-items.ensures.value)
    ∙ sym c.loop-term.invariant.code ∙ ap (λ l. linked c.loop-term.rest.items (resolution.terms names l)) (at_drop_all terms xs i at_end)
    ∙ linked_all c.loop-term.rest.items)
    ∙ sym (number-Chain c.in_ok-first-2.first c.loop-term.rest)
