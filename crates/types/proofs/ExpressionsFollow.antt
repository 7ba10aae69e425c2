-- Expressions without errors follow the rules.
use Rattle.std.proofs.Common.{◌≡◌, ℕ, ◌<◌, ◌^◌, List, [], ◌∷◌, map, Option, Some, None, refl, pos}
use Rattle.std.proofs.lemmas.Bool.{ltb-true}
use Rattle.std.specs.Prelude.{nat_lt}
use Rattle.std.specs.List.{AllByRecursion}
use Rattle.sections.specs.Member.{Member}
use Rattle.syntax_tree.specs.Tree.{Expr, Or, Conjs, NoConj, OrConj, Conj, And, Negs, NoNeg, AndNeg, Neg, Plainly, Not, Cmp}
use Rattle.syntax_tree.specs.Tree.{Alone, Compare, Sum, Add, Terms, NoTerm, AddTerm, Prod, Multiply, Factors, NoFactor}
use Rattle.syntax_tree.specs.Tree.{MultiplyFactor, Unary, Positive, Negative, Atom, Number, True, False, Name, Element}
use Rattle.syntax_tree.specs.Tree.{Length, Parens}
use Rattle.types.specs.Code.{Procedure}
use Rattle.types.specs.NameErrors.{naming_section, naming_scalar}
use Rattle.types.specs.ExpressionErrors as errors
use Rattle.types.specs.Resolution as resolution
use Rattle.types.specs.Scope.{Names, Meant, ASection, AScalar, meant, section_or_0, slot_or_0, section_of, slot_of}
use Rattle.types.specs.Sound.{IsLiteral, NumberFollows, LinksFollow, TruthFollows, TruthsFollow}
use Rattle.types.proofs.LabelLimit.{none_left, none_right}
use Rattle.types.proofs.Refused.{refused, test_passed}

-- what names mean exists
pub record Knows (slots : ℕ) (scope : List ℕ) (names : Names) : Type 0 where
  pub sections : (x : List ℕ) (s : ℕ) → meant x names ≡ Some (ASection s) → Member s scope
  pub scalars : (x : List ℕ) (k : ℕ) → meant x names ≡ Some (AScalar k) → k < slots

module _ (label : ℕ) where
  section_named : (scope : List ℕ) (m : Option Meant) → ((s : ℕ) → m ≡ Some (ASection s) → Member s scope)
      → naming_section label m ≡ [] → Member (section_or_0 m) scope
  section_named scope None there none = refused none
  section_named scope (Some (AScalar k)) there none = refused none
  section_named scope (Some (ASection s)) there none = there s refl

  scalar_named : (slots : ℕ) (m : Option Meant) → ((k : ℕ) → m ≡ Some (AScalar k) → k < slots)
      → naming_scalar label m ≡ [] → slot_or_0 m < slots
  scalar_named slots None there none = refused none
  scalar_named slots (Some (ASection s)) there none = refused none
  scalar_named slots (Some (AScalar k)) there none = there k refl

module _ (g : Procedure) (scope : List ℕ) (label : ℕ) (names : Names) (knows : Knows g.slots scope names) where
  pub section_there : (x : List ℕ) → naming_section label (meant x names) ≡ [] → Member (section_of names x) scope
  section_there x none = section_named label scope (meant x names) (knows.sections x) none

  scalar_there : (x : List ℕ) → naming_scalar label (meant x names) ≡ [] → slot_of names x < g.slots
  scalar_there x none = scalar_named label g.slots (meant x names) (knows.scalars x) none

  literal_there : (n : ℕ) → errors.literal n ≡ [] → IsLiteral (pos n)
  literal_there n none = ltb-true n (2 ^ 63) (test_passed (nat_lt n (2 ^ 63)) _ none)

  mutual
    pub number_follows : (e : Expr) → errors.number label names e ≡ [] → NumberFollows g scope (resolution.number names e)
    number_follows (Or c NoConj) none = conj_follows c none
    number_follows (Or c (OrConj d rest)) none = refused none

    conj_follows : (c : Conj) → errors.number_conj label names c ≡ [] → NumberFollows g scope (resolution.number_conj names c)
    conj_follows (And n NoNeg) none = neg_follows n none
    conj_follows (And n (AndNeg m rest)) none = refused none

    neg_follows : (n : Neg) → errors.number_neg label names n ≡ [] → NumberFollows g scope (resolution.number_neg names n)
    neg_follows (Plainly c) none = cmp_follows c none
    neg_follows (Not c) none = refused none

    cmp_follows : (c : Cmp) → errors.number_cmp label names c ≡ [] → NumberFollows g scope (resolution.number_cmp names c)
    cmp_follows (Alone s) none = sum_follows s none
    cmp_follows (Compare a r b) none = refused none

    pub sum_follows : (s : Sum) → errors.number_sum label names s ≡ [] → NumberFollows g scope (resolution.number_sum names s)
    sum_follows (Add p NoTerm) none = prod_follows p (none_left (errors.number_prod label names p) _ none)
    sum_follows (Add p (AddTerm o q rest)) none =
        let more = none_right (errors.number_prod label names p) _ none in (
          prod_follows p (none_left (errors.number_prod label names p) _ none),
          (
            prod_follows q (none_left (errors.number_prod label names q) _ more),
            terms_follow rest (none_right (errors.number_prod label names q) _ more),
          ),
        )

    terms_follow : (ts : Terms) → errors.terms label names ts ≡ [] → LinksFollow g scope (resolution.terms names ts)
    terms_follow NoTerm none = tt
    terms_follow (AddTerm o p rest) none = (
      prod_follows p (none_left (errors.number_prod label names p) _ none),
      terms_follow rest (none_right (errors.number_prod label names p) _ none),
    )

    prod_follows : (p : Prod) → errors.number_prod label names p ≡ [] → NumberFollows g scope (resolution.number_prod names p)
    prod_follows (Multiply u NoFactor) none = unary_follows u (none_left (errors.number_unary label names u) _ none)
    prod_follows (Multiply u (MultiplyFactor o v rest)) none =
        let more = none_right (errors.number_unary label names u) _ none in (
          unary_follows u (none_left (errors.number_unary label names u) _ none),
          (
            unary_follows v (none_left (errors.number_unary label names v) _ more),
            factors_follow rest (none_right (errors.number_unary label names v) _ more),
          ),
        )

    factors_follow : (fs : Factors) → errors.factors label names fs ≡ [] → LinksFollow g scope (resolution.factors names fs)
    factors_follow NoFactor none = tt
    factors_follow (MultiplyFactor o u rest) none = (
      unary_follows u (none_left (errors.number_unary label names u) _ none),
      factors_follow rest (none_right (errors.number_unary label names u) _ none),
    )

    unary_follows : (u : Unary) → errors.number_unary label names u ≡ [] → NumberFollows g scope (resolution.number_unary names u)
    unary_follows (Positive a) none = atom_follows a none
    unary_follows (Negative a) none = atom_follows a none

    atom_follows : (a : Atom) → errors.number_atom label names a ≡ [] → NumberFollows g scope (resolution.number_atom names a)
    atom_follows (Number n) none = literal_there n none
    atom_follows True none = refused none
    atom_follows False none = refused none
    atom_follows (Name x) none = scalar_there x none
    atom_follows (Element s i) none = (
      section_there s (none_left (naming_section label (meant s names)) _ none),
      number_follows i (none_right (naming_section label (meant s names)) _ none),
    )
    atom_follows (Length s) none = section_there s none
    atom_follows (Parens e) none = number_follows e none

  mutual
    pub truth_follows : (e : Expr) → errors.truth label names e ≡ [] → TruthFollows g scope (resolution.truth names e)
    truth_follows (Or c NoConj) none = truth_conj_follows c (none_left (errors.truth_conj label names c) _ none)
    truth_follows (Or c (OrConj d rest)) none =
        let more = none_right (errors.truth_conj label names c) _ none in (
          truth_conj_follows c (none_left (errors.truth_conj label names c) _ none),
          (
            truth_conj_follows d (none_left (errors.truth_conj label names d) _ more),
            conjs_follow rest (none_right (errors.truth_conj label names d) _ more),
          ),
        )

    conjs_follow : (cs : Conjs) → errors.conjs label names cs ≡ [] → TruthsFollow g scope (resolution.conjs names cs)
    conjs_follow NoConj none = tt
    conjs_follow (OrConj c rest) none = (
      truth_conj_follows c (none_left (errors.truth_conj label names c) _ none),
      conjs_follow rest (none_right (errors.truth_conj label names c) _ none),
    )

    truth_conj_follows : (c : Conj) → errors.truth_conj label names c ≡ [] → TruthFollows g scope (resolution.truth_conj names c)
    truth_conj_follows (And n NoNeg) none = truth_neg_follows n (none_left (errors.truth_neg label names n) _ none)
    truth_conj_follows (And n (AndNeg m rest)) none =
        let more = none_right (errors.truth_neg label names n) _ none in (
          truth_neg_follows n (none_left (errors.truth_neg label names n) _ none),
          (
            truth_neg_follows m (none_left (errors.truth_neg label names m) _ more),
            negs_follow rest (none_right (errors.truth_neg label names m) _ more),
          ),
        )

    negs_follow : (ns : Negs) → errors.negs label names ns ≡ [] → TruthsFollow g scope (resolution.negs names ns)
    negs_follow NoNeg none = tt
    negs_follow (AndNeg n rest) none = (
      truth_neg_follows n (none_left (errors.truth_neg label names n) _ none),
      negs_follow rest (none_right (errors.truth_neg label names n) _ none),
    )

    truth_neg_follows : (n : Neg) → errors.truth_neg label names n ≡ [] → TruthFollows g scope (resolution.truth_neg names n)
    truth_neg_follows (Plainly c) none = truth_cmp_follows c none
    truth_neg_follows (Not c) none = truth_cmp_follows c none

    truth_cmp_follows : (c : Cmp) → errors.truth_cmp label names c ≡ [] → TruthFollows g scope (resolution.truth_cmp names c)
    truth_cmp_follows (Alone s) none = truth_sum_follows s none
    truth_cmp_follows (Compare a r b) none = (
      sum_follows a (none_left (errors.number_sum label names a) _ none),
      sum_follows b (none_right (errors.number_sum label names a) _ none),
    )

    truth_sum_follows : (s : Sum) → errors.truth_sum label names s ≡ [] → TruthFollows g scope (resolution.truth_sum names s)
    truth_sum_follows (Add p NoTerm) none = truth_prod_follows p none
    truth_sum_follows (Add p (AddTerm o q rest)) none = refused none

    truth_prod_follows : (p : Prod) → errors.truth_prod label names p ≡ [] → TruthFollows g scope (resolution.truth_prod names p)
    truth_prod_follows (Multiply u NoFactor) none = truth_unary_follows u none
    truth_prod_follows (Multiply u (MultiplyFactor o v rest)) none = refused none

    truth_unary_follows : (u : Unary) → errors.truth_unary label names u ≡ []
        → TruthFollows g scope (resolution.truth_unary names u)
    truth_unary_follows (Positive a) none = truth_atom_follows a none
    truth_unary_follows (Negative a) none = refused none

    truth_atom_follows : (a : Atom) → errors.truth_atom label names a ≡ [] → TruthFollows g scope (resolution.truth_atom names a)
    truth_atom_follows True none = tt
    truth_atom_follows False none = tt
    truth_atom_follows (Parens e) none = truth_follows e none
    truth_atom_follows (Number n) none = refused none
    truth_atom_follows (Name x) none = refused none
    truth_atom_follows (Element s i) none = refused none
    truth_atom_follows (Length s) none = refused none

  pub numbers_follow : (es : List Expr) → errors.numbers label names es ≡ []
      → AllByRecursion (NumberFollows g scope) (map (resolution.number names) es)
  numbers_follow [] none = tt
  numbers_follow (e ∷ es) none = (
    number_follows e (none_left (errors.number label names e) _ none),
    numbers_follow es (none_right (errors.number label names e) _ none),
  )
