-- No two expressions have the same spelling if the tokens after them don't continue them.
use Rattle.std.proofs.Common.{◌≡◌, ◌<◌, ◌≤◌, ℕ, List, ◌∷◌, refl, ap, arith}
use Rattle.syntax_tree.specs.declared.tree.Relation.{Relation}
use Rattle.syntax_tree.specs.declared.tree.Relation.TheVariants.{Less as IsLess, AtMost as IsAtMost, Greater as IsGreater}
use Rattle.syntax_tree.specs.declared.tree.Relation.TheVariants.{AtLeast as IsAtLeast, Equal as IsEqual, Differs as IsOther}
use Rattle.syntax_tree.specs.declared.tree.Sign.{Sign}
use Rattle.syntax_tree.specs.declared.tree.Sign.TheVariants.{Plus as PlusSign, Minus as MinusSign}
use Rattle.syntax_tree.specs.declared.tree.Operator.{Operator}
use Rattle.syntax_tree.specs.declared.tree.Operator.TheVariants.{Times, Over, Modulo}
use Rattle.syntax.specs.declared.token.Word.TheVariants.{Not as WordNot, True as WordTrue, False as WordFalse, Len as WordLen}
use Rattle.syntax.specs.declared.token.Mark.TheVariants.{LeftParen, RightParen, LeftBracket, RightBracket, Minus}
use Rattle.syntax.specs.Token.{Token, NameToken, NumberToken, WordToken, MarkToken}
use Rattle.syntax_tree.specs.Tree.{Expr, Or, Conjs, NoConj, OrConj, Conj, And, Negs, NoNeg, AndNeg, Neg, Plainly, Not, Cmp}
use Rattle.syntax_tree.specs.Tree.{Alone, Compare, Sum, Add, Terms, NoTerm, AddTerm, Prod, Multiply, Factors, NoFactor}
use Rattle.syntax_tree.specs.Tree.{MultiplyFactor, Unary, Positive, Negative, Atom, Number, True, False, Name, Element}
use Rattle.syntax_tree.specs.Tree.{Length, Parens}
use Rattle.syntax.specs.Spelling.{relation_mark, sign_mark, operator_mark, expr_then, conjs_then, conj_then, negs_then}
use Rattle.syntax.specs.Spelling.{neg_then, cmp_then, sum_then, terms_then, prod_then, factors_then, unary_then}
use Rattle.syntax.specs.Spelling.{atom_then}
use Rattle.syntax.specs.Reading.{binds, or_level, and_level, relation_level, sign_level, operator_level, bracket_level}

-- Each operator is determined by its mark, and binds as its level does.

pub relation_binds : (o : Relation) (r : List Token) → binds (MarkToken (relation_mark o) ∷ r) ≡ relation_level
relation_binds IsLess r = refl
relation_binds _ r = refl

pub sign_binds : (o : Sign) (r : List Token) → binds (MarkToken (sign_mark o) ∷ r) ≡ sign_level
sign_binds PlusSign r = refl
sign_binds MinusSign r = refl

pub operator_binds : (o : Operator) (r : List Token) → binds (MarkToken (operator_mark o) ∷ r) ≡ operator_level
operator_binds Times r = refl
operator_binds _ r = refl

relation_one : (o p : Relation) → relation_mark o ≡ relation_mark p → o ≡ p
relation_one IsLess IsLess e = refl
relation_one IsAtMost IsAtMost e = refl
relation_one IsGreater IsGreater e = refl
relation_one IsAtLeast IsAtLeast e = refl
relation_one IsEqual IsEqual e = refl
relation_one IsOther IsOther e = refl
relation_one _ _ e = cc

sign_one : (o p : Sign) → sign_mark o ≡ sign_mark p → o ≡ p
sign_one PlusSign PlusSign e = refl
sign_one MinusSign MinusSign e = refl
sign_one _ _ e = cc

operator_one : (o p : Operator) → operator_mark o ≡ operator_mark p → o ≡ p
operator_one Times Times e = refl
operator_one Over Over e = refl
operator_one Modulo Modulo e = refl
operator_one _ _ e = cc

-- What follows an operand binds less tightly than what would continue the operand.

pub conjs_bind : (cs : Conjs) (r : List Token) → binds r < or_level → binds (conjs_then cs r) < and_level
unfolding conjs_then
conjs_bind NoConj r ends = omega arith
conjs_bind (OrConj c cs) r ends = omega arith

pub negs_bind : (ns : Negs) (r : List Token) → binds r < and_level → binds (negs_then ns r) < relation_level
unfolding negs_then
negs_bind NoNeg r ends = omega arith
negs_bind (AndNeg n ns) r ends = omega arith

pub terms_bind : (ts : Terms) (r : List Token) → binds r < sign_level → binds (terms_then ts r) < operator_level
unfolding terms_then
terms_bind NoTerm r ends = omega arith
terms_bind (AddTerm o p ts) r ends = omega (arith, sign_binds o (prod_then p (terms_then ts r)))

pub factors_bind : (fs : Factors) (r : List Token) → binds r < operator_level → binds (factors_then fs r) < bracket_level
unfolding factors_then
factors_bind NoFactor r ends = omega arith
factors_bind (MultiplyFactor o u fs) r ends = omega (arith, operator_binds o (unary_then u (factors_then fs r)))

-- What an expression starts with: an atom 3, a sign 2, `not` 1, any other token 0.

abbrev pub begins : List Token → ℕ
begins (NameToken _ ∷ _) = 3
begins (NumberToken _ ∷ _) = 3
begins (WordToken WordTrue ∷ _) = 3
begins (WordToken WordFalse ∷ _) = 3
begins (WordToken WordLen ∷ _) = 3
begins (WordToken WordNot ∷ _) = 1
begins (MarkToken LeftParen ∷ _) = 3
begins (MarkToken Minus ∷ _) = 2
begins _ = 0

pub atom_begins : (a : Atom) (r : List Token) → begins (atom_then a r) ≡ 3
unfolding atom_then
atom_begins (Number n) r = refl
atom_begins _ r = refl

pub unary_begins : (u : Unary) (r : List Token) → 2 ≤ begins (unary_then u r)
unfolding unary_then
unary_begins (Positive a) r = omega (arith, atom_begins a r)
unary_begins (Negative a) r = omega arith

pub cmp_begins : (c : Cmp) (r : List Token) → 2 ≤ begins (cmp_then c r)
unfolding cmp_then sum_then prod_then
cmp_begins (Alone (Add (Multiply u fs) ts)) r = unary_begins u _
cmp_begins (Compare (Add (Multiply u fs) ts) o t) r = unary_begins u _

pub neg_begins : (n : Neg) (r : List Token) → 1 ≤ begins (neg_then n r)
unfolding neg_then
neg_begins (Plainly c) r = omega (arith, cmp_begins c r)
neg_begins (Not c) r = omega arith

pub expr_begins : (e : Expr) (r : List Token) → 1 ≤ begins (expr_then e r)
unfolding expr_then conj_then
expr_begins (Or (And n ns) cs) r = neg_begins n _

-- One expression, and one rest.

mutual
  unfolding expr_then

  pub expr_one : (x y : Expr) (r s : List Token) → binds r < or_level → binds s < or_level
      → expr_then x r ≡ expr_then y s → (x ≡ y) × (r ≡ s)
  expr_one (Or c cs) (Or d ds) r s ends other same =
      let first = conj_one c d _ _ (conjs_bind cs r ends) (conjs_bind ds s other) same in
      let more = conjs_one cs ds r s ends other first.1 in
      (cc (first.0, more.0), more.1)

  pub conjs_one : (x y : Conjs) (r s : List Token) → binds r < or_level → binds s < or_level
      → conjs_then x r ≡ conjs_then y s → (x ≡ y) × (r ≡ s)
  conjs_one NoConj NoConj r s ends other same = (refl, same)
  conjs_one NoConj (OrConj d ds) r s ends other same = absurd (omega (arith, ap binds same))
  conjs_one (OrConj c cs) NoConj r s ends other same = absurd (omega (arith, ap binds same))
  conjs_one (OrConj c cs) (OrConj d ds) r s ends other same =
      let first = conj_one c d (conjs_then cs r) (conjs_then ds s) (conjs_bind cs r ends) (conjs_bind ds s other) (cc) in
      let more = conjs_one cs ds r s ends other first.1 in
      (cc (first.0, more.0), more.1)

  pub conj_one : (x y : Conj) (r s : List Token) → binds r < and_level → binds s < and_level
      → conj_then x r ≡ conj_then y s → (x ≡ y) × (r ≡ s)
  conj_one (And n ns) (And m ms) r s ends other same =
      let first = neg_one n m _ _ (negs_bind ns r ends) (negs_bind ms s other) same in
      let more = negs_one ns ms r s ends other first.1 in
      (cc (first.0, more.0), more.1)

  pub negs_one : (x y : Negs) (r s : List Token) → binds r < and_level → binds s < and_level
      → negs_then x r ≡ negs_then y s → (x ≡ y) × (r ≡ s)
  negs_one NoNeg NoNeg r s ends other same = (refl, same)
  negs_one NoNeg (AndNeg m ms) r s ends other same = absurd (omega (arith, ap binds same))
  negs_one (AndNeg n ns) NoNeg r s ends other same = absurd (omega (arith, ap binds same))
  negs_one (AndNeg n ns) (AndNeg m ms) r s ends other same =
      let first = neg_one n m (negs_then ns r) (negs_then ms s) (negs_bind ns r ends) (negs_bind ms s other) (cc) in
      let more = negs_one ns ms r s ends other first.1 in
      (cc (first.0, more.0), more.1)

  pub neg_one : (x y : Neg) (r s : List Token) → binds r < relation_level → binds s < relation_level
      → neg_then x r ≡ neg_then y s → (x ≡ y) × (r ≡ s)
  neg_one (Plainly c) (Plainly d) r s ends other same =
      let only = cmp_one c d r s ends other same in (ap Plainly only.0, only.1)
  neg_one (Plainly c) (Not d) r s ends other same = absurd (omega (arith, ap begins same, cmp_begins c r))
  neg_one (Not c) (Plainly d) r s ends other same = absurd (omega (arith, ap begins same, cmp_begins d s))
  neg_one (Not c) (Not d) r s ends other same =
      let only = cmp_one c d r s ends other (cc) in (ap Not only.0, only.1)

  pub cmp_one : (x y : Cmp) (r s : List Token) → binds r < relation_level → binds s < relation_level
      → cmp_then x r ≡ cmp_then y s → (x ≡ y) × (r ≡ s)
  cmp_one (Alone a) (Alone b) r s ends other same =
      let only = sum_one a b r s (omega arith) (omega arith) same in (ap Alone only.0, only.1)
  cmp_one (Alone a) (Compare b o c) r s ends other same =
      let only = sum_one a b r (MarkToken (relation_mark o) ∷ sum_then c s) (omega arith)
      (omega (arith, relation_binds o (sum_then c s))) same in
      absurd (omega (arith, ap binds only.1, relation_binds o (sum_then c s)))
  cmp_one (Compare a o b) (Alone c) r s ends other same =
      let only = sum_one a c (MarkToken (relation_mark o) ∷ sum_then b r) s
      (omega (arith, relation_binds o (sum_then b r))) (omega arith) same in
      absurd (omega (arith, ap binds only.1, relation_binds o (sum_then b r)))
  cmp_one (Compare a o b) (Compare c p d) r s ends other same =
      let left = sum_one a c (MarkToken (relation_mark o) ∷ sum_then b r) (MarkToken (relation_mark p) ∷ sum_then d s)
      (omega (arith, relation_binds o (sum_then b r))) (omega (arith, relation_binds p (sum_then d s))) same in
      let marks = left.1 in
      let right = sum_one b d r s (omega arith) (omega arith) (cc) in
      (cc (left.0, right.0, relation_one o p (cc)), right.1)

  pub sum_one : (x y : Sum) (r s : List Token) → binds r < sign_level → binds s < sign_level
      → sum_then x r ≡ sum_then y s → (x ≡ y) × (r ≡ s)
  sum_one (Add p ts) (Add q us) r s ends other same =
      let first = prod_one p q _ _ (terms_bind ts r ends) (terms_bind us s other) same in
      let more = terms_one ts us r s ends other first.1 in
      (cc (first.0, more.0), more.1)

  pub terms_one : (x y : Terms) (r s : List Token) → binds r < sign_level → binds s < sign_level
      → terms_then x r ≡ terms_then y s → (x ≡ y) × (r ≡ s)
  terms_one NoTerm NoTerm r s ends other same = (refl, same)
  terms_one NoTerm (AddTerm o q us) r s ends other same =
      absurd (omega (arith, ap binds same, sign_binds o (prod_then q (terms_then us s))))
  terms_one (AddTerm o p ts) NoTerm r s ends other same =
      absurd (omega (arith, ap binds same, sign_binds o (prod_then p (terms_then ts r))))
  terms_one (AddTerm o p ts) (AddTerm t q us) r s ends other same =
      let first = prod_one p q (terms_then ts r) (terms_then us s) (terms_bind ts r ends) (terms_bind us s other) (cc) in
      let more = terms_one ts us r s ends other first.1 in
      (cc (first.0, more.0, sign_one o t (cc)), more.1)

  pub prod_one : (x y : Prod) (r s : List Token) → binds r < operator_level → binds s < operator_level
      → prod_then x r ≡ prod_then y s → (x ≡ y) × (r ≡ s)
  prod_one (Multiply u fs) (Multiply v gs) r s ends other same =
      let first = unary_one u v _ _ (factors_bind fs r ends) (factors_bind gs s other) same in
      let more = factors_one fs gs r s ends other first.1 in
      (cc (first.0, more.0), more.1)

  pub factors_one : (x y : Factors) (r s : List Token) → binds r < operator_level → binds s < operator_level
      → factors_then x r ≡ factors_then y s → (x ≡ y) × (r ≡ s)
  factors_one NoFactor NoFactor r s ends other same = (refl, same)
  factors_one NoFactor (MultiplyFactor o v gs) r s ends other same =
      absurd (omega (arith, ap binds same, operator_binds o (unary_then v (factors_then gs s))))
  factors_one (MultiplyFactor o u fs) NoFactor r s ends other same =
      absurd (omega (arith, ap binds same, operator_binds o (unary_then u (factors_then fs r))))
  factors_one (MultiplyFactor o u fs) (MultiplyFactor t v gs) r s ends other same =
      let first = unary_one u v (factors_then fs r) (factors_then gs s) (factors_bind fs r ends) (factors_bind gs s other) (cc) in
      let more = factors_one fs gs r s ends other first.1 in
      (cc (first.0, more.0, operator_one o t (cc)), more.1)

  pub unary_one : (x y : Unary) (r s : List Token) → binds r < bracket_level → binds s < bracket_level
      → unary_then x r ≡ unary_then y s → (x ≡ y) × (r ≡ s)
  unary_one (Positive a) (Positive b) r s ends other same =
      let only = atom_one a b r s ends other same in (ap Positive only.0, only.1)
  unary_one (Positive a) (Negative b) r s ends other same = absurd (omega (arith, ap begins same, atom_begins a r))
  unary_one (Negative a) (Positive b) r s ends other same = absurd (omega (arith, ap begins same, atom_begins b s))
  unary_one (Negative a) (Negative b) r s ends other same =
      let only = atom_one a b r s ends other (cc) in (ap Negative only.0, only.1)

  pub atom_one : (x y : Atom) (r s : List Token) → binds r < bracket_level → binds s < bracket_level
      → atom_then x r ≡ atom_then y s → (x ≡ y) × (r ≡ s)
  atom_one (Number n) (Number m) r s ends other same = (cc, cc)
  atom_one True True r s ends other same = (refl, cc)
  atom_one False False r s ends other same = (refl, cc)
  atom_one (Name x) (Name y) r s ends other same = (cc, cc)
  atom_one (Name x) (Element y f) r s ends other same =
      let bracket : r ≡ MarkToken LeftBracket ∷ expr_then f (MarkToken RightBracket ∷ s) = cc in absurd (omega (arith, ap binds bracket))
  atom_one (Element x e) (Name y) r s ends other same =
      let bracket : MarkToken LeftBracket ∷ expr_then e (MarkToken RightBracket ∷ r) ≡ s = cc in absurd (omega (arith, ap binds bracket))
  atom_one (Element x e) (Element y f) r s ends other same =
      let index = expr_one e f (MarkToken RightBracket ∷ r) (MarkToken RightBracket ∷ s) (omega arith) (omega arith) (cc) in
      let last = index.1 in
      (cc (index.0), cc)
  atom_one (Length x) (Length y) r s ends other same = (cc, cc)
  atom_one (Parens e) (Parens f) r s ends other same =
      let inner = expr_one e f (MarkToken RightParen ∷ r) (MarkToken RightParen ∷ s) (omega arith) (omega arith) (cc) in
      let last = inner.1 in
      (cc (inner.0), cc)
  atom_one _ _ r s ends other same = cc
