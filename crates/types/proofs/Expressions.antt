-- Expressions as chains of their operands: what was resolved so far, and what remains.
use Rattle.std.proofs.Common.{◌≡◌, ◌≢◌, ◌⊎◌, inl, inr, ℕ, Bool, List, [], ◌∷◌, ◌++◌, length, map, refl, sym, ap, ◌∙◌, arith, true, false, Some, None, String, Box, Global}
use Rattle.std.specs.String.{string_bytes}
use Rattle.syntax_tree.specs.Tree.{Or, And, Add, Multiply, Cmp, Conj, NoConj}
use Rattle.syntax_tree.specs.Tree.{Neg, NoNeg, Prod, Terms, NoTerm, AddTerm, Unary, NoFactor}
use Rattle.syntax_tree.specs.Tree.{expr, conj, neg, cmp, sum, prod, unary, atom, conjs, negs, terms, factors, term, negated}
use Rattle.syntax_tree.specs.Tree.{Number as Number_of, True, False, Name, Element, Length, Parens}
use Rattle.syntax_tree.specs.declared.tree.Atom.TheVariants.{Number as rNumber, True as rTrue, False as rFalse, Name as rName}
use Rattle.syntax_tree.specs.declared.tree.Atom.TheVariants.{Element as rElement, Length as rLength, Parens as rParens}
use Rattle.syntax_tree.specs.declared.tree.Atom.{Atom as rAtom}
use Rattle.syntax_tree.specs.declared.tree.Expr.{Expr as rExpr, out-Expr}
use Rattle.syntax_tree.specs.declared.tree.Cmp.{Cmp as rCmp, out-Cmp}
use Rattle.syntax_tree.specs.declared.tree.Compared.{Compared as rCompared}
use Rattle.syntax_tree.specs.declared.tree.Sum.{Sum as rSum, out-Sum}
use Rattle.syntax_tree.specs.declared.tree.Prod.{Prod as rProd, out-Prod}
use Rattle.syntax_tree.proofs.Atoms.{expr_is, conj_is, neg_is, cmp_is_alone, cmp_is_compared, sum_is, prod_is}
use Rattle.syntax_tree.specs.declared.tree.Conj.{Conj as rConj, out-Conj}
use Rattle.syntax_tree.specs.declared.tree.Neg.{Neg as rNeg, out-Neg}
use Rattle.syntax_tree.specs.declared.tree.Term.{Term as rTerm, out-Term, roll-out-Term}
use Rattle.syntax_tree.specs.declared.tree.Factor.{Factor as rFactor}
use Rattle.syntax_tree.proofs.RowLemmas.{term_built}
use Rattle.types.specs.Code.{Number, Chain, Links, Done, Link, Both, Either, Truths, NoMore, Also}
use Rattle.types.specs.declared.code.Link.{Link as rLink}
use Rattle.types.specs.declared.code.Number.{Number as CodeNumber}
use Rattle.types.specs.declared.code.Truth.{Truth as rTruth}
use Rattle.types.specs.ExpressionErrors as errors
use Rattle.types.specs.Resolution as resolution
use Rattle.types.specs.Rows.{links, truths}
use Rattle.types.specs.Scope.{Names}
use Rattle.types.specs.Translation.{number, truth}

-- ---- links and booleans so far, before others
abbrev pub linked : List rLink → Links → Links
linked [] more = more
linked (l ∷ ls) more = Link l.operator (number l.operand) (linked ls more)

pub linked_push : (ls : List rLink) (l : rLink) (more : Links)
    → linked ls (Link l.operator (number l.operand) more) ≡ linked (ls ++ l ∷ []) more
linked_push [] l more = refl
linked_push (k ∷ ls) l more = ap (Link k.operator (number k.operand)) (linked_push ls l more)

pub linked_all : (ls : List rLink) → linked ls Done ≡ links ls
linked_all [] = refl
linked_all (l ∷ ls) = ap (Link l.operator (number l.operand)) (linked_all ls)

abbrev pub chosen : List rTruth → Truths → Truths
chosen [] more = more
chosen (t ∷ ts) more = Also (truth t) (chosen ts more)

pub chosen_push : (ts : List rTruth) (t : rTruth) (more : Truths) → chosen ts (Also (truth t) more) ≡ chosen (ts ++ t ∷ []) more
chosen_push [] t more = refl
chosen_push (u ∷ ts) t more = ap (Also (truth u)) (chosen_push ts t more)

pub chosen_all : (ts : List rTruth) → chosen ts NoMore ≡ truths ts
chosen_all [] = refl
chosen_all (t ∷ ts) = ap (Also (truth t)) (chosen_all ts)

-- ---- a term is its parts
pub term_is : (t : rTerm) (rest : Terms) → term t rest ≡ AddTerm (out-Term t).sign (prod (out-Term t).operand) rest
term_is t rest = ap (λ u. term u rest) (sym (roll-out-Term t)) ∙ term_built (out-Term t).sign (out-Term t).operand rest

module _ (names : Names) where
  -- ---- a single operand, and a chain
  pub sum_alone : (p : Prod) (ts : List rTerm) → length ts ≡ 0 → resolution.number_sum names (Add p (terms ts)) ≡ resolution.number_prod names p
  sum_alone p [] none = refl
  sum_alone p (t ∷ ts) none = absurd (omega (arith, none))

  pub sum_chain : (p : Prod) (ts : List rTerm) → length ts ≢ 0
      → resolution.number_sum names (Add p (terms ts)) ≡ Chain (resolution.number_prod names p) (resolution.terms names (terms ts))
  sum_chain p [] some = absurd (some refl)
  sum_chain p (t ∷ ts) some =
      ap (λ l. resolution.number_sum names (Add p l)) (term_is t (terms ts))
      ∙ ap (λ l. Chain (resolution.number_prod names p) (resolution.terms names l)) (sym (term_is t (terms ts)))

  pub terms_more : (t : rTerm) (ts : List rTerm) → resolution.terms names (terms (t ∷ ts))
      ≡ Link (resolution.sign (out-Term t).sign) (resolution.number_prod names (prod (out-Term t).operand)) (resolution.terms names (terms ts))
  terms_more t ts = ap (resolution.terms names) (term_is t (terms ts))

  pub prod_alone : (u : Unary) (fs : List rFactor) → length fs ≡ 0
      → resolution.number_prod names (Multiply u (factors fs)) ≡ resolution.number_unary names u
  prod_alone u [] none = refl
  prod_alone u (f ∷ fs) none = absurd (omega (arith, none))

  pub prod_chain : (u : Unary) (fs : List rFactor) → length fs ≢ 0
      → resolution.number_prod names (Multiply u (factors fs))
      ≡ Chain (resolution.number_unary names u) (resolution.factors names (factors fs))
  prod_chain u [] some = absurd (some refl)
  prod_chain u (f ∷ fs) some = refl

  pub either_alone : (c : Conj) (cs : List rConj) → length cs ≡ 0
      → resolution.truth names (Or c (conjs cs)) ≡ resolution.truth_conj names c
  either_alone c [] none = refl
  either_alone c (d ∷ cs) none = absurd (omega (arith, none))

  pub either_chain : (c : Conj) (cs : List rConj) → length cs ≢ 0
      → resolution.truth names (Or c (conjs cs)) ≡ Either (Also (resolution.truth_conj names c) (resolution.conjs names (conjs cs)))
  either_chain c [] some = absurd (some refl)
  either_chain c (d ∷ cs) some = refl

  pub both_alone : (n : Neg) (ns : List rNeg) → length ns ≡ 0
      → resolution.truth_conj names (And n (negs ns)) ≡ resolution.truth_neg names n
  both_alone n [] none = refl
  both_alone n (m ∷ ns) none = absurd (omega (arith, none))

  pub both_chain : (n : Neg) (ns : List rNeg) → length ns ≢ 0
      → resolution.truth_conj names (And n (negs ns)) ≡ Both (Also (resolution.truth_neg names n) (resolution.negs names (negs ns)))
  both_chain n [] some = absurd (some refl)
  both_chain n (m ∷ ns) some = refl

  pub number_alone : (c : Conj) (cs : List rConj) → length cs ≡ 0
      → resolution.number names (Or c (conjs cs)) ≡ resolution.number_conj names c
  number_alone c [] none = refl
  number_alone c (d ∷ cs) none = absurd (omega (arith, none))

  pub conj_alone : (n : Neg) (ns : List rNeg) → length ns ≡ 0
      → resolution.number_conj names (And n (negs ns)) ≡ resolution.number_neg names n
  conj_alone n [] none = refl
  conj_alone n (m ∷ ns) none = absurd (omega (arith, none))

  pub truth_sum_alone : (p : Prod) (ts : List rTerm) → length ts ≡ 0
      → resolution.truth_sum names (Add p (terms ts)) ≡ resolution.truth_prod names p
  truth_sum_alone p [] none = refl
  truth_sum_alone p (t ∷ ts) none = absurd (omega (arith, none))

  pub truth_prod_alone : (u : Unary) (fs : List rFactor) → length fs ≡ 0
      → resolution.truth_prod names (Multiply u (factors fs)) ≡ resolution.truth_unary names u
  truth_prod_alone u [] none = refl
  truth_prod_alone u (f ∷ fs) none = absurd (omega (arith, none))

-- ---- the errors of a single operand, and of one that isn't single
module _ (label : ℕ) (names : Names) where
  pub errors-number_alone : (c : Conj) (cs : List rConj) → length cs ≡ 0
      → errors.number label names (Or c (conjs cs)) ≡ errors.number_conj label names c
  errors-number_alone c [] none = refl
  errors-number_alone c (d ∷ cs) none = absurd (omega (arith, none))

  pub errors-number_chain : (c : Conj) (cs : List rConj) → length cs ≢ 0
      → errors.number label names (Or c (conjs cs)) ≡ errors.wrong_kind label names
  errors-number_chain c [] some = absurd (some refl)
  errors-number_chain c (d ∷ cs) some = refl

  pub errors-conj_alone : (n : Neg) (ns : List rNeg) → length ns ≡ 0
      → errors.number_conj label names (And n (negs ns)) ≡ errors.number_neg label names n
  errors-conj_alone n [] none = refl
  errors-conj_alone n (m ∷ ns) none = absurd (omega (arith, none))

  pub errors-conj_chain : (n : Neg) (ns : List rNeg) → length ns ≢ 0
      → errors.number_conj label names (And n (negs ns)) ≡ errors.wrong_kind label names
  errors-conj_chain n [] some = absurd (some refl)
  errors-conj_chain n (m ∷ ns) some = refl

  pub errors-sum_alone : (p : Prod) (ts : List rTerm) → length ts ≡ 0
      → errors.truth_sum label names (Add p (terms ts)) ≡ errors.truth_prod label names p
  errors-sum_alone p [] none = refl
  errors-sum_alone p (t ∷ ts) none = absurd (omega (arith, none))

  pub errors-sum_chain : (p : Prod) (ts : List rTerm) → length ts ≢ 0
      → errors.truth_sum label names (Add p (terms ts)) ≡ errors.wrong_kind label names
  errors-sum_chain p [] some = absurd (some refl)
  errors-sum_chain p (t ∷ ts) some = ap (λ l. errors.truth_sum label names (Add p l)) (term_is t (terms ts))

  pub errors-prod_alone : (u : Unary) (fs : List rFactor) → length fs ≡ 0
      → errors.truth_prod label names (Multiply u (factors fs)) ≡ errors.truth_unary label names u
  errors-prod_alone u [] none = refl
  errors-prod_alone u (f ∷ fs) none = absurd (omega (arith, none))

  pub errors-prod_chain : (u : Unary) (fs : List rFactor) → length fs ≢ 0
      → errors.truth_prod label names (Multiply u (factors fs)) ≡ errors.wrong_kind label names
  errors-prod_chain u [] some = absurd (some refl)
  errors-prod_chain u (f ∷ fs) some = refl

  pub errors-terms_more : (t : rTerm) (ts : List rTerm) → errors.terms label names (terms (t ∷ ts))
      ≡ errors.number_prod label names (prod (out-Term t).operand) ++ errors.terms label names (terms ts)
  errors-terms_more t ts = ap (errors.terms label names) (term_is t (terms ts))

  -- ---- the errors of a Rust expression, level by level
  pub errors-of_expr_alone : (e : rExpr) → length (out-Expr e).rest.items ≡ 0
      → errors.number label names (expr e) ≡ errors.number_conj label names (conj (out-Expr e).first)
  errors-of_expr_alone e none = ap (errors.number label names) (expr_is e) ∙ errors-number_alone (conj (out-Expr e).first) (out-Expr e).rest.items none

  pub errors-of_expr_chain : (e : rExpr) → length (out-Expr e).rest.items ≢ 0
      → errors.number label names (expr e) ≡ errors.wrong_kind label names
  errors-of_expr_chain e some = ap (errors.number label names) (expr_is e) ∙ errors-number_chain (conj (out-Expr e).first) (out-Expr e).rest.items some

  pub errors-of_conj_alone : (e : rConj) → length (out-Conj e).rest.items ≡ 0
      → errors.number_conj label names (conj e) ≡ errors.number_neg label names (neg (out-Conj e).first)
  errors-of_conj_alone e none = ap (errors.number_conj label names) (conj_is e) ∙ errors-conj_alone (neg (out-Conj e).first) (out-Conj e).rest.items none

  pub errors-of_conj_chain : (e : rConj) → length (out-Conj e).rest.items ≢ 0
      → errors.number_conj label names (conj e) ≡ errors.wrong_kind label names
  errors-of_conj_chain e some = ap (errors.number_conj label names) (conj_is e) ∙ errors-conj_chain (neg (out-Conj e).first) (out-Conj e).rest.items some

  pub errors-of_neg_plain : (e : rNeg) → (out-Neg e).negated ≡ false
      → errors.number_neg label names (neg e) ≡ errors.number_cmp label names (cmp (out-Neg e).comparison)
  errors-of_neg_plain e plain =
      ap (errors.number_neg label names) (neg_is e)
      ∙ ap (λ b. errors.number_neg label names (negated b (cmp (out-Neg e).comparison))) plain

  pub errors-of_neg_denied : (e : rNeg) → (out-Neg e).negated ≡ true
      → errors.number_neg label names (neg e) ≡ errors.wrong_kind label names
  errors-of_neg_denied e denied =
      ap (errors.number_neg label names) (neg_is e)
      ∙ ap (λ b. errors.number_neg label names (negated b (cmp (out-Neg e).comparison))) denied

  pub errors-of_cmp_alone : (e : rCmp) → (out-Cmp e).right ≡ None
      → errors.number_cmp label names (cmp e) ≡ errors.number_sum label names (sum (out-Cmp e).left)
  errors-of_cmp_alone e none = ap (errors.number_cmp label names) (cmp_is_alone e none)

  pub errors-of_cmp_compared : (e : rCmp) (r : rCompared) → (out-Cmp e).right ≡ Some r
      → errors.number_cmp label names (cmp e) ≡ errors.wrong_kind label names
  errors-of_cmp_compared e r some = ap (errors.number_cmp label names) (cmp_is_compared e r some)

  pub errors-of_sum : (e : rSum) → errors.number_sum label names (sum e)
      ≡ errors.number_prod label names (prod (out-Sum e).first) ++ errors.terms label names (terms (out-Sum e).rest.items)
  errors-of_sum e = ap (errors.number_sum label names) (sum_is e)

  pub errors-of_prod : (e : rProd) → errors.number_prod label names (prod e)
      ≡ errors.number_unary label names (unary (out-Prod e).first) ++ errors.factors label names (factors (out-Prod e).rest.items)
  errors-of_prod e = ap (errors.number_prod label names) (prod_is e)

-- ---- no operand after the first
pub no_conjs : (cs : List rConj) → length cs ≡ 0 → conjs cs ≡ NoConj
no_conjs [] none = refl
no_conjs (c ∷ cs) none = absurd (omega (arith, none))

pub no_negs : (ns : List rNeg) → length ns ≡ 0 → negs ns ≡ NoNeg
no_negs [] none = refl
no_negs (n ∷ ns) none = absurd (omega (arith, none))

pub no_terms : (ts : List rTerm) → length ts ≡ 0 → terms ts ≡ NoTerm
no_terms [] none = refl
no_terms (t ∷ ts) none = absurd (omega (arith, none))

pub no_factors : (fs : List rFactor) → length fs ≡ 0 → factors fs ≡ NoFactor
no_factors [] none = refl
no_factors (f ∷ fs) none = absurd (omega (arith, none))

-- ---- the tree of an atom
pub atom_Number : (n : ℕ) → atom (rNumber n) ≡ Number_of n
unfolding atom
atom_Number n = refl

pub atom_True : atom rTrue ≡ True
unfolding atom
atom_True = refl

pub atom_False : atom rFalse ≡ False
unfolding atom
atom_False = refl

pub atom_Name : (s : String Global) → atom (rName s) ≡ Name (string_bytes s)
unfolding atom
atom_Name s = refl

pub atom_Element : (s : String Global) (b : Box rExpr Global) → atom (rElement s b) ≡ Element (string_bytes s) (expr b.value)
unfolding atom
atom_Element s b = refl

pub atom_Length : (s : String Global) → atom (rLength s) ≡ Length (string_bytes s)
unfolding atom
atom_Length s = refl

pub atom_Parens : (b : Box rExpr Global) → atom (rParens b) ≡ Parens (expr b.value)
unfolding atom
atom_Parens b = refl

-- ---- booleans where a number is expected
pub errors-of_truth_value : (label : ℕ) (names : Names) (a : rAtom) → (a ≡ rTrue) ⊎ (a ≡ rFalse)
    → errors.number_atom label names (atom a) ≡ errors.wrong_kind label names
errors-of_truth_value label names a (inl is) = ap (errors.number_atom label names) (ap atom is ∙ atom_True)
errors-of_truth_value label names a (inr is) = ap (errors.number_atom label names) (ap atom is ∙ atom_False)

-- ---- `not` has the errors of its operand
pub errors-negated : (label : ℕ) (names : Names) (b : Bool) (c : Cmp)
    → errors.truth_neg label names (negated b c) ≡ errors.truth_cmp label names c
errors-negated label names true c = refl
errors-negated label names false c = refl

-- ---- one number more
pub one_more_number : (ns : List CodeNumber) (n : CodeNumber) (more : List Number)
    → map number (ns ++ n ∷ []) ++ more ≡ map number ns ++ (number n ∷ more)
one_more_number [] n more = refl
one_more_number (m ∷ ns) n more = ap (λ l. number m ∷ l) (one_more_number ns n more)
