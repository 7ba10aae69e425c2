-- The errors of an expression: names that aren't in scope (Y1), and numbers, booleans and sections
-- where another kind is expected (Y3). A part of the wrong kind is one error, and its contents add
-- none.
use Rattle.std.specs.Prelude.{ℕ, ◌^◌, List, [], ◌∷◌, ◌++◌, nat_lt, if◌then◌else◌}
use Rattle.syntax_tree.specs.Tree.{Expr, Or, Conjs, NoConj, OrConj, Conj, And, Negs, NoNeg, AndNeg, Neg}
use Rattle.syntax_tree.specs.Tree.{Plainly, Not, Cmp, Alone, Compare, Sum, Add, Terms, NoTerm, AddTerm, Prod}
use Rattle.syntax_tree.specs.Tree.{Multiply, Factors, NoFactor, MultiplyFactor, Unary, Positive, Negative}
use Rattle.syntax_tree.specs.Tree.{Atom, Number, True, False, Name, Element, Length, Parens}
use Rattle.types.specs.declared.error.TypeError.{TypeError}
use Rattle.types.specs.declared.error.TypeError.TheVariants.{WrongKind, OverLimit}
use Rattle.types.specs.NameErrors.{naming_section, naming_scalar}
use Rattle.types.specs.Scope.{Names, meant}

-- Y9: a number that doesn't fit in a signed 64-bit integer; no text spells one
abbrev pub literal : ℕ → List TypeError
literal n = if nat_lt n (2 ^ 63) then [] else OverLimit ∷ []

module _ (label : ℕ) (names : Names) where
  -- Y3
  abbrev pub wrong_kind : List TypeError
  wrong_kind = WrongKind label ∷ []

  abbrev mutual
    -- where a number is expected
    pub number : Expr → List TypeError
    number (Or c NoConj) = number_conj c
    number (Or c (OrConj d rest)) = wrong_kind

    pub number_conj : Conj → List TypeError
    number_conj (And n NoNeg) = number_neg n
    number_conj (And n (AndNeg m rest)) = wrong_kind

    pub number_neg : Neg → List TypeError
    number_neg (Plainly c) = number_cmp c
    number_neg (Not c) = wrong_kind

    pub number_cmp : Cmp → List TypeError
    number_cmp (Alone s) = number_sum s
    number_cmp (Compare a r b) = wrong_kind

    pub number_sum : Sum → List TypeError
    number_sum (Add p rest) = number_prod p ++ terms rest

    pub terms : Terms → List TypeError
    terms NoTerm = []
    terms (AddTerm o p rest) = number_prod p ++ terms rest

    pub number_prod : Prod → List TypeError
    number_prod (Multiply u rest) = number_unary u ++ factors rest

    pub factors : Factors → List TypeError
    factors NoFactor = []
    factors (MultiplyFactor o u rest) = number_unary u ++ factors rest

    pub number_unary : Unary → List TypeError
    number_unary (Positive a) = number_atom a
    number_unary (Negative a) = number_atom a

    pub number_atom : Atom → List TypeError
    number_atom (Number n) = literal n
    number_atom True = wrong_kind
    number_atom False = wrong_kind
    number_atom (Name x) = naming_scalar label (meant x names)
    number_atom (Element s i) = naming_section label (meant s names) ++ number i
    number_atom (Length s) = naming_section label (meant s names)
    number_atom (Parens e) = number e

  abbrev mutual
    -- where a boolean is expected
    pub truth : Expr → List TypeError
    truth (Or c rest) = truth_conj c ++ conjs rest

    pub conjs : Conjs → List TypeError
    conjs NoConj = []
    conjs (OrConj c rest) = truth_conj c ++ conjs rest

    pub truth_conj : Conj → List TypeError
    truth_conj (And n rest) = truth_neg n ++ negs rest

    pub negs : Negs → List TypeError
    negs NoNeg = []
    negs (AndNeg n rest) = truth_neg n ++ negs rest

    pub truth_neg : Neg → List TypeError
    truth_neg (Plainly c) = truth_cmp c
    truth_neg (Not c) = truth_cmp c

    pub truth_cmp : Cmp → List TypeError
    truth_cmp (Alone s) = truth_sum s
    truth_cmp (Compare a r b) = number_sum a ++ number_sum b

    pub truth_sum : Sum → List TypeError
    truth_sum (Add p NoTerm) = truth_prod p
    truth_sum (Add p (AddTerm o q rest)) = wrong_kind

    pub truth_prod : Prod → List TypeError
    truth_prod (Multiply u NoFactor) = truth_unary u
    truth_prod (Multiply u (MultiplyFactor o v rest)) = wrong_kind

    pub truth_unary : Unary → List TypeError
    truth_unary (Positive a) = truth_atom a
    truth_unary (Negative a) = wrong_kind

    pub truth_atom : Atom → List TypeError
    truth_atom (Number n) = wrong_kind
    truth_atom True = []
    truth_atom False = []
    truth_atom (Name x) = wrong_kind
    truth_atom (Element s i) = wrong_kind
    truth_atom (Length s) = wrong_kind
    truth_atom (Parens e) = truth e

  -- where several numbers are expected
  abbrev pub numbers : List Expr → List TypeError
  numbers [] = []
  numbers (e ∷ es) = number e ++ numbers es
