-- If a level has no operator, its single atom is that of the next level.
use Rattle.std.proofs.Common.{◌≡◌, ◌≢◌, List, [], ◌∷◌, length, Option, Some, None, Bool, true, false, refl, sym, ap, ◌∙◌, arith}
use Rattle.syntax_tree.specs.Tree.{Atom, Or, And, Cmp, Alone, Compare, Add, Prod, Multiply, expr, conj, neg}
use Rattle.syntax_tree.specs.Tree.{cmp, sum, term, prod, unary, conjs, negs, terms, factors, negated}
use Rattle.syntax_tree.specs.Tree.{lone_atom, atom_of_conj, atom_of_neg, atom_of_sum, atom_of_prod, atom_of_unary}
use Rattle.syntax_tree.specs.declared.tree.Expr.{Expr as rExpr, out-Expr, roll-out-Expr}
use Rattle.syntax_tree.specs.declared.tree.Conj.{Conj as rConj, out-Conj, roll-out-Conj}
use Rattle.syntax_tree.specs.declared.tree.Neg.{Neg as rNeg, out-Neg, roll-out-Neg}
use Rattle.syntax_tree.specs.declared.tree.Cmp.{Cmp as rCmp, out-Cmp, roll-out-Cmp, roll-Cmp}
use Rattle.syntax_tree.specs.declared.tree.Compared.{Compared as rCompared, out-Compared, roll-out-Compared}
use Rattle.syntax_tree.specs.declared.tree.Sum.{Sum as rSum, out-Sum, roll-out-Sum}
use Rattle.syntax_tree.specs.declared.tree.Term.{Term as rTerm, Term' as rSigned}
use Rattle.syntax_tree.specs.declared.tree.Prod.{Prod as rProd, out-Prod, roll-out-Prod}
use Rattle.syntax_tree.proofs.RowLemmas.{expr_built, conj_built, neg_built, cmp_alone, cmp_compared, sum_built, prod_built}

-- What is known about the single atom of a level, by the number of operands after the first.
pub record IsLevel {Operand : Type 0} (rest : List Operand) (first whole : Option Atom) : Type 0 where
  pub alone : length rest ≡ 0 → first ≡ whole
  pub beside : length rest ≢ 0 → None ≡ whole

-- the single atom depends only on whether operands follow the first one
level : {Operand : Type 0} {whole : Option Atom} (rest : List Operand) (lone : List Operand → Option Atom)
    → ((r : Operand) (l : List Operand) → None ≡ lone (r ∷ l)) → whole ≡ lone rest
    → IsLevel rest (lone []) whole
level [] lone more is = record { alone = λ none. sym is; beside = λ some. absurd (some refl) }
level (r ∷ l) lone more is = record {
  alone = λ none. absurd (omega (arith, none));
  beside = λ some. more r l ∙ sym is;
}

-- ---- expr, conj
pub expr_is : (e : rExpr) → expr e ≡ Or (conj (out-Expr e).first) (conjs (out-Expr e).rest.items)
expr_is e = ap expr (sym (roll-out-Expr e)) ∙ expr_built (out-Expr e).first (out-Expr e).rest

pub expr_level : (e : rExpr)
    → IsLevel (out-Expr e).rest.items (atom_of_conj (conj (out-Expr e).first)) (lone_atom (expr e))
expr_level e =
    level _ (λ l. lone_atom (Or (conj (out-Expr e).first) (conjs l))) (λ r l. refl) (ap lone_atom (expr_is e))

pub conj_is : (e : rConj) → conj e ≡ And (neg (out-Conj e).first) (negs (out-Conj e).rest.items)
conj_is e = ap conj (sym (roll-out-Conj e)) ∙ conj_built (out-Conj e).first (out-Conj e).rest

pub conj_level : (e : rConj)
    → IsLevel (out-Conj e).rest.items (atom_of_neg (neg (out-Conj e).first)) (atom_of_conj (conj e))
conj_level e =
    level _ (λ l. atom_of_conj (And (neg (out-Conj e).first) (negs l))) (λ r l. refl)
    (ap atom_of_conj (conj_is e))

-- ---- neg, cmp
pub neg_is : (e : rNeg) → neg e ≡ negated (out-Neg e).negated (cmp (out-Neg e).comparison)
neg_is e = ap neg (sym (roll-out-Neg e)) ∙ neg_built (out-Neg e).negated (out-Neg e).comparison

pub cmp_is_alone : (e : rCmp) → (out-Cmp e).right ≡ None → cmp e ≡ Alone (sum (out-Cmp e).left)
cmp_is_alone e none =
    ap cmp (sym (roll-out-Cmp e) ∙ ap (λ r. roll-Cmp (record { left = (out-Cmp e).left; right = r })) none)
    ∙ cmp_alone (out-Cmp e).left

atom_of_negated : (b : Bool) (c : Cmp) → b ≡ true → None ≡ atom_of_neg (negated b c)
atom_of_negated true c h = refl
atom_of_negated false c h = cc

pub neg_denied : (e : rNeg) → (out-Neg e).negated ≡ true → None ≡ atom_of_neg (neg e)
neg_denied e h = atom_of_negated _ _ h ∙ sym (ap atom_of_neg (neg_is e))

pub neg_alone : (e : rNeg) → (out-Neg e).negated ≡ false → (out-Cmp (out-Neg e).comparison).right ≡ None
    → atom_of_sum (sum (out-Cmp (out-Neg e).comparison).left) ≡ atom_of_neg (neg e)
neg_alone e plain none =
    sym (ap atom_of_neg (neg_is e ∙ ap (λ b. negated b (cmp (out-Neg e).comparison)) plain
    ∙ ap (negated false) (cmp_is_alone _ none)))

pub cmp_is_compared : (e : rCmp) (r : rCompared) → (out-Cmp e).right ≡ Some r
    → cmp e ≡ Compare (sum (out-Cmp e).left) (out-Compared r).relation (sum (out-Compared r).right.value)
cmp_is_compared e r some =
    ap cmp (sym (roll-out-Cmp e) ∙ ap (λ r. roll-Cmp (record { left = (out-Cmp e).left; right = r }))
    (some ∙ ap Some (sym (roll-out-Compared r))))
    ∙ cmp_compared (out-Cmp e).left (out-Compared r).relation (out-Compared r).right

compared_by : (e : rCmp) (o : Option rCompared) → (out-Cmp e).right ≡ o → o ≢ None
    → None ≡ atom_of_neg (negated false (cmp e))
compared_by e None is some = absurd (some refl)
compared_by e (Some r) is some = sym (ap (λ c. atom_of_neg (negated false c)) (cmp_is_compared e r is))

pub neg_compared : (e : rNeg) → (out-Neg e).negated ≡ false → (out-Cmp (out-Neg e).comparison).right ≢ None
    → None ≡ atom_of_neg (neg e)
neg_compared e plain some =
    compared_by (out-Neg e).comparison _ refl some
    ∙ sym (ap atom_of_neg (neg_is e ∙ ap (λ b. negated b (cmp (out-Neg e).comparison)) plain))

-- ---- sum, prod
pub sum_is : (e : rSum) → sum e ≡ Add (prod (out-Sum e).first) (terms (out-Sum e).rest.items)
sum_is e = ap sum (sym (roll-out-Sum e)) ∙ sum_built (out-Sum e).first (out-Sum e).rest

beside_in_sum : (p : Prod) (t : rTerm) (ts : List rTerm) → None ≡ atom_of_sum (Add p (terms (t ∷ ts)))
unfolding term
beside_in_sum p (rSigned s q) ts = refl

pub sum_level : (e : rSum)
    → IsLevel (out-Sum e).rest.items (atom_of_prod (prod (out-Sum e).first)) (atom_of_sum (sum e))
sum_level e =
    let first = prod (out-Sum e).first in
    level _ (λ l. atom_of_sum (Add first (terms l))) (beside_in_sum first) (ap atom_of_sum (sum_is e))

pub prod_is : (e : rProd) → prod e ≡ Multiply (unary (out-Prod e).first) (factors (out-Prod e).rest.items)
prod_is e = ap prod (sym (roll-out-Prod e)) ∙ prod_built (out-Prod e).first (out-Prod e).rest

pub prod_level : (e : rProd)
    → IsLevel (out-Prod e).rest.items (atom_of_unary (unary (out-Prod e).first)) (atom_of_prod (prod e))
prod_level e =
    level _ (λ l. atom_of_prod (Multiply (unary (out-Prod e).first) (factors l))) (λ r l. refl)
    (ap atom_of_prod (prod_is e))
