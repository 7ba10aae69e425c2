-- Formatting within a line goes production by production.
use Rattle.std.proofs.Common.{◌≡◌, ℕ, List, [], ◌∷◌, ◌++◌, None, refl, ap, sym, ◌∙◌, append_assoc, append-nil}
use Rattle.std.specs.Fmt.{decimal}
use Rattle.syntax_tree.specs.declared.tree.Relation.{Relation}
use Rattle.syntax_tree.specs.declared.tree.Relation.TheVariants.{Less as IsLess, AtMost as IsAtMost, Greater as IsGreater}
use Rattle.syntax_tree.specs.declared.tree.Relation.TheVariants.{AtLeast as IsAtLeast, Equal as IsEqual, Differs as IsOther}
use Rattle.syntax_tree.specs.declared.tree.Sign.{Sign}
use Rattle.syntax_tree.specs.declared.tree.Sign.TheVariants.{Plus as PlusSign, Minus as MinusSign}
use Rattle.syntax_tree.specs.declared.tree.Operator.{Operator}
use Rattle.syntax_tree.specs.declared.tree.Operator.TheVariants.{Times, Over, Modulo}
use Rattle.syntax.specs.declared.token.Mark.TheVariants.{RightParen, RightBracket}
use Rattle.syntax.specs.Canonical.{Place, laid, in_line}
use Rattle.syntax.specs.declared.token.Left.{Left}
use Rattle.syntax.specs.declared.token.Left.TheVariants.{Opening, Called, Operand, Other}
use Rattle.syntax.specs.Lexical.{mark_text}
use Rattle.syntax.specs.Spelling.{expr_then, conj_then, conjs_then, neg_then, negs_then, cmp_then, sum_then, prod_then}
use Rattle.syntax.specs.Spelling.{terms_then, unary_then, factors_then, atom_then, more_then, relation_mark, sign_mark}
use Rattle.syntax.specs.Spelling.{operator_mark}
use Rattle.syntax.specs.Token.{Token, MarkToken}
use Rattle.syntax_tree.specs.Tree.{Expr, Or, Conjs, NoConj, OrConj, Conj, And, Negs, NoNeg, AndNeg, Neg, Plainly, Not, Cmp}
use Rattle.syntax_tree.specs.Tree.{Alone, Compare, Sum, Add, Terms, NoTerm, AddTerm, Prod, Multiply, Factors, NoFactor}
use Rattle.syntax_tree.specs.Tree.{MultiplyFactor, Unary, Positive, Negative, Atom, Number, True, False, Name, Element}
use Rattle.syntax_tree.specs.Tree.{Length, Parens}

-- the same state with something else to the left
abbrev pub at_left : Place → Left → Place
at_left at l = record at { left = l }

-- inside a line
abbrev pub line : Place
line = record { depth = 0; label = None; left = Opening }

-- what follows a name is formatted as after an operand
abbrev pub Follows : Place → List Token → Type 0
Follows at r = laid (at_left at Called) r ≡ laid (at_left at Operand) r

-- the common start of two texts, and what follows it in one of them
pub append_joined : (a b c x y z : List ℕ) → a ≡ x ++ b → c ≡ x ++ y → b ≡ y ++ z → a ≡ c ++ z
append_joined a b c x y z p q s = p ∙ ap (λ l. x ++ l) s ∙ sym (append_assoc x y z) ∙ ap (λ l. l ++ z) (sym q)

pub append_under : (x a c z : List ℕ) → a ≡ c ++ z → x ++ a ≡ (x ++ c) ++ z
append_under x a c z e = ap (λ l. x ++ l) e ∙ sym (append_assoc x c z)

-- the same lemma after a word or a mark and a space
pub append_apart : (w x y z : List ℕ) {a b c d e : List ℕ} → d ≡ 32 ∷ a → e ≡ 32 ∷ c → a ≡ x ++ b → c ≡ x ++ y → b ≡ y ++ z
    → w ++ d ≡ (w ++ e) ++ z
append_apart w x y z {e = e} apart alone p q s =
    append_under w _ e z (apart ∙ ap (λ l. 32 ∷ l) (append_joined _ _ _ _ _ _ p q s) ∙ ap (λ l. l ++ z) (sym alone))

pub before_nil : (x z : List ℕ) → x ++ z ≡ (x ++ []) ++ z
before_nil x z = ap (λ l. l ++ z) (sym (append-nil x))

mutual
  unfolding laid expr_then conj_then conjs_then neg_then negs_then cmp_then sum_then terms_then prod_then factors_then unary_then atom_then

  -- one space follows a word or an operator
  pub expr_apart : (at : Place) (e : Expr) (r : List Token) → laid (at_left at Other) (expr_then e r)
      ≡ 32 ∷ laid (at_left at Opening) (expr_then e r)
  expr_apart at (Or c cs) r = conj_apart at c (conjs_then cs r)

  pub conj_apart : (at : Place) (c : Conj) (r : List Token) → laid (at_left at Other) (conj_then c r)
      ≡ 32 ∷ laid (at_left at Opening) (conj_then c r)
  conj_apart at (And n ns) r = neg_apart at n (negs_then ns r)

  pub neg_apart : (at : Place) (n : Neg) (r : List Token) → laid (at_left at Other) (neg_then n r)
      ≡ 32 ∷ laid (at_left at Opening) (neg_then n r)
  neg_apart at (Plainly c) r = cmp_apart at c r
  neg_apart at (Not c) r = refl

  pub cmp_apart : (at : Place) (c : Cmp) (r : List Token) → laid (at_left at Other) (cmp_then c r)
      ≡ 32 ∷ laid (at_left at Opening) (cmp_then c r)
  cmp_apart at (Alone s) r = sum_apart at s r
  cmp_apart at (Compare s o t) r = sum_apart at s _

  pub sum_apart : (at : Place) (s : Sum) (r : List Token) → laid (at_left at Other) (sum_then s r)
      ≡ 32 ∷ laid (at_left at Opening) (sum_then s r)
  sum_apart at (Add p ts) r = prod_apart at p (terms_then ts r)

  pub prod_apart : (at : Place) (p : Prod) (r : List Token) → laid (at_left at Other) (prod_then p r)
      ≡ 32 ∷ laid (at_left at Opening) (prod_then p r)
  prod_apart at (Multiply u fs) r = unary_apart at u (factors_then fs r)

  pub unary_apart : (at : Place) (u : Unary) (r : List Token) → laid (at_left at Other) (unary_then u r)
      ≡ 32 ∷ laid (at_left at Opening) (unary_then u r)
  unary_apart at (Positive a) r = atom_apart at a r
  unary_apart at (Negative a) r = refl

  pub atom_apart : (at : Place) (a : Atom) (r : List Token) → laid (at_left at Other) (atom_then a r)
      ≡ 32 ∷ laid (at_left at Opening) (atom_then a r)
  atom_apart at (Number n) r = refl
  atom_apart at _ r = refl

-- a relation, a sign and an operator are between two spaces
pub relation_laid : (at : Place) (o : Relation) (ts us : List Token) → laid (at_left at Other) ts ≡ 32 ∷ laid (at_left at Opening) us
    → laid (at_left at Operand) (MarkToken (relation_mark o) ∷ ts)
    ≡ (32 ∷ (mark_text (relation_mark o) ++ 32 ∷ [])) ++ laid (at_left at Opening) us
unfolding laid
relation_laid at IsLess ts us e = ap (λ l. 32 ∷ 60 ∷ l) e
relation_laid at IsAtMost ts us e = ap (λ l. 32 ∷ 60 ∷ 61 ∷ l) e
relation_laid at IsGreater ts us e = ap (λ l. 32 ∷ 62 ∷ l) e
relation_laid at IsAtLeast ts us e = ap (λ l. 32 ∷ 62 ∷ 61 ∷ l) e
relation_laid at IsEqual ts us e = ap (λ l. 32 ∷ 61 ∷ 61 ∷ l) e
relation_laid at IsOther ts us e = ap (λ l. 32 ∷ 33 ∷ 61 ∷ l) e

pub sign_laid : (at : Place) (o : Sign) (ts us : List Token) → laid (at_left at Other) ts ≡ 32 ∷ laid (at_left at Opening) us
    → laid (at_left at Operand) (MarkToken (sign_mark o) ∷ ts)
    ≡ (32 ∷ (mark_text (sign_mark o) ++ 32 ∷ [])) ++ laid (at_left at Opening) us
unfolding laid
sign_laid at PlusSign ts us e = ap (λ l. 32 ∷ 43 ∷ l) e
sign_laid at MinusSign ts us e = ap (λ l. 32 ∷ 45 ∷ l) e

pub operator_laid : (at : Place) (o : Operator) (ts us : List Token) → laid (at_left at Other) ts ≡ 32 ∷ laid (at_left at Opening) us
    → laid (at_left at Operand) (MarkToken (operator_mark o) ∷ ts)
    ≡ (32 ∷ (mark_text (operator_mark o) ++ 32 ∷ [])) ++ laid (at_left at Opening) us
unfolding laid
operator_laid at Times ts us e = ap (λ l. 32 ∷ 42 ∷ l) e
operator_laid at Over ts us e = ap (λ l. 32 ∷ 47 ∷ l) e
operator_laid at Modulo ts us e = ap (λ l. 32 ∷ 37 ∷ l) e

-- chains: what follows the first operand can follow the chain
pub factors_follow : (at : Place) (fs : Factors) (r : List Token) → Follows at r → Follows at (factors_then fs r)
unfolding laid factors_then
factors_follow at NoFactor r f = f
factors_follow at (MultiplyFactor Times u fs) r f = refl
factors_follow at (MultiplyFactor Over u fs) r f = refl
factors_follow at (MultiplyFactor Modulo u fs) r f = refl

pub terms_follow : (at : Place) (ts : Terms) (r : List Token) → Follows at r → Follows at (terms_then ts r)
unfolding laid terms_then
terms_follow at NoTerm r f = f
terms_follow at (AddTerm PlusSign p ts) r f = refl
terms_follow at (AddTerm MinusSign p ts) r f = refl

pub relation_follows : (at : Place) (o : Relation) (r : List Token) → Follows at (MarkToken (relation_mark o) ∷ r)
unfolding laid
relation_follows at IsLess r = refl
relation_follows at _ r = refl

pub negs_follow : (at : Place) (ns : Negs) (r : List Token) → Follows at r → Follows at (negs_then ns r)
unfolding laid negs_then
negs_follow at NoNeg r f = f
negs_follow at (AndNeg n ns) r f = refl

pub conjs_follow : (at : Place) (cs : Conjs) (r : List Token) → Follows at r → Follows at (conjs_then cs r)
unfolding laid conjs_then
conjs_follow at NoConj r f = f
conjs_follow at (OrConj c cs) r f = refl

pub end_follows : (at : Place) → Follows at []
unfolding laid
end_follows at = refl

mutual
  unfolding laid expr_then conj_then conjs_then neg_then negs_then cmp_then sum_then terms_then prod_then factors_then unary_then atom_then

  pub expr_laid : (at : Place) (e : Expr) (r : List Token) → Follows at r → laid (at_left at Opening) (expr_then e r)
      ≡ in_line (expr_then e []) ++ laid (at_left at Operand) r
  expr_laid at (Or c cs) r f =
      append_joined _ _ _ _ _ _ (conj_laid at c (conjs_then cs r) (conjs_follow at cs r f)) (conj_laid line c (conjs_then cs [])
      (conjs_follow line cs [] (end_follows line))) (conjs_laid at cs r f)

  pub conjs_laid : (at : Place) (cs : Conjs) (r : List Token) → Follows at r → laid (at_left at Operand) (conjs_then cs r)
      ≡ laid (at_left line Operand) (conjs_then cs []) ++ laid (at_left at Operand) r
  conjs_laid at NoConj r f = refl
  conjs_laid at (OrConj c cs) r f =
      let rest = conjs_then cs r in let none = conjs_then cs [] in
      append_apart (32 ∷ 111 ∷ 114 ∷ []) _ _ _ (conj_apart at c rest) (conj_apart line c none)
      (conj_laid at c rest (conjs_follow at cs r f)) (conj_laid line c none (conjs_follow line cs [] (end_follows line))) (conjs_laid at cs r f)

  pub conj_laid : (at : Place) (c : Conj) (r : List Token) → Follows at r → laid (at_left at Opening) (conj_then c r)
      ≡ in_line (conj_then c []) ++ laid (at_left at Operand) r
  conj_laid at (And n ns) r f =
      append_joined _ _ _ _ _ _ (neg_laid at n (negs_then ns r) (negs_follow at ns r f)) (neg_laid line n (negs_then ns [])
      (negs_follow line ns [] (end_follows line))) (negs_laid at ns r f)

  pub negs_laid : (at : Place) (ns : Negs) (r : List Token) → Follows at r → laid (at_left at Operand) (negs_then ns r)
      ≡ laid (at_left line Operand) (negs_then ns []) ++ laid (at_left at Operand) r
  negs_laid at NoNeg r f = refl
  negs_laid at (AndNeg n ns) r f =
      let rest = negs_then ns r in let none = negs_then ns [] in
      append_apart (32 ∷ 97 ∷ 110 ∷ 100 ∷ []) _ _ _ (neg_apart at n rest) (neg_apart line n none)
      (neg_laid at n rest (negs_follow at ns r f)) (neg_laid line n none (negs_follow line ns [] (end_follows line))) (negs_laid at ns r f)

  pub neg_laid : (at : Place) (n : Neg) (r : List Token) → Follows at r → laid (at_left at Opening) (neg_then n r)
      ≡ in_line (neg_then n []) ++ laid (at_left at Operand) r
  neg_laid at (Plainly c) r f = cmp_laid at c r f
  neg_laid at (Not c) r f =
      ap (λ l. 110 ∷ 111 ∷ 116 ∷ l) (cmp_apart at c r ∙ ap (λ l. 32 ∷ l) (cmp_laid at c r f))
      ∙ ap (λ l. (110 ∷ 111 ∷ 116 ∷ l) ++ laid (at_left at Operand) r) (sym (cmp_apart line c []))

  pub cmp_laid : (at : Place) (c : Cmp) (r : List Token) → Follows at r → laid (at_left at Opening) (cmp_then c r)
      ≡ in_line (cmp_then c []) ++ laid (at_left at Operand) r
  cmp_laid at (Alone s) r f = sum_laid at s r f
  cmp_laid at (Compare s o t) r f =
      let rest = sum_then t r in let none = sum_then t [] in
      append_joined _ _ _ _ _ _ (sum_laid at s (MarkToken (relation_mark o) ∷ rest) (relation_follows at o rest)) (sum_laid line s (MarkToken
      (relation_mark o) ∷ none) (relation_follows line o none))
      (append_joined _ _ _ (32 ∷ (mark_text (relation_mark o) ++ 32 ∷ [])) _ _ (relation_laid at o rest rest (sum_apart at t r))
      (relation_laid line o none none (sum_apart line t [])) (sum_laid at t r f))

  pub sum_laid : (at : Place) (s : Sum) (r : List Token) → Follows at r → laid (at_left at Opening) (sum_then s r)
      ≡ in_line (sum_then s []) ++ laid (at_left at Operand) r
  sum_laid at (Add p ts) r f =
      append_joined _ _ _ _ _ _ (prod_laid at p (terms_then ts r) (terms_follow at ts r f)) (prod_laid line p (terms_then ts [])
      (terms_follow line ts [] (end_follows line))) (terms_laid at ts r f)

  pub terms_laid : (at : Place) (ts : Terms) (r : List Token) → Follows at r → laid (at_left at Operand) (terms_then ts r)
      ≡ laid (at_left line Operand) (terms_then ts []) ++ laid (at_left at Operand) r
  terms_laid at NoTerm r f = refl
  terms_laid at (AddTerm o p ts) r f =
      let rest = terms_then ts r in let none = terms_then ts [] in
      append_joined _ _ _ (32 ∷ (mark_text (sign_mark o) ++ 32 ∷ [])) _ _ (sign_laid at o _ (prod_then p rest) (prod_apart at p rest))
      (sign_laid line o _ (prod_then p none) (prod_apart line p none))
      (append_joined _ _ _ _ _ _ (prod_laid at p rest (terms_follow at ts r f)) (prod_laid line p none (terms_follow line ts []
      (end_follows line))) (terms_laid at ts r f))

  pub prod_laid : (at : Place) (p : Prod) (r : List Token) → Follows at r → laid (at_left at Opening) (prod_then p r)
      ≡ in_line (prod_then p []) ++ laid (at_left at Operand) r
  prod_laid at (Multiply u fs) r f =
      append_joined _ _ _ _ _ _ (unary_laid at u (factors_then fs r) (factors_follow at fs r f)) (unary_laid line u (factors_then fs [])
      (factors_follow line fs [] (end_follows line))) (factors_laid at fs r f)

  pub factors_laid : (at : Place) (fs : Factors) (r : List Token) → Follows at r → laid (at_left at Operand) (factors_then fs r)
      ≡ laid (at_left line Operand) (factors_then fs []) ++ laid (at_left at Operand) r
  factors_laid at NoFactor r f = refl
  factors_laid at (MultiplyFactor o u fs) r f =
      let rest = factors_then fs r in let none = factors_then fs [] in
      append_joined _ _ _ (32 ∷ (mark_text (operator_mark o) ++ 32 ∷ [])) _ _ (operator_laid at o _ (unary_then u rest)
      (unary_apart at u rest)) (operator_laid line o _ (unary_then u none) (unary_apart line u none))
      (append_joined _ _ _ _ _ _ (unary_laid at u rest (factors_follow at fs r f)) (unary_laid line u none (factors_follow line fs []
      (end_follows line))) (factors_laid at fs r f))

  pub unary_laid : (at : Place) (u : Unary) (r : List Token) → Follows at r → laid (at_left at Opening) (unary_then u r)
      ≡ in_line (unary_then u []) ++ laid (at_left at Operand) r
  unary_laid at (Positive a) r f = atom_laid at a r f
  unary_laid at (Negative a) r f = ap (λ l. 45 ∷ l) (atom_laid at a r f)

  pub atom_laid : (at : Place) (a : Atom) (r : List Token) → Follows at r → laid (at_left at Opening) (atom_then a r)
      ≡ in_line (atom_then a []) ++ laid (at_left at Operand) r
  atom_laid at (Number n) r f = before_nil (decimal n) _
  atom_laid at True r f = refl
  atom_laid at False r f = refl
  atom_laid at (Name x) r f = ap (λ l. x ++ l) f ∙ before_nil x _
  atom_laid at (Element s e) r f =
      append_under s _ _ _ (ap (λ l. 91 ∷ l) (append_joined _ _ _ _ _ _ (expr_laid at e (MarkToken RightBracket ∷ r) refl) (expr_laid line e
      (MarkToken RightBracket ∷ []) refl) refl))
  atom_laid at (Length s) r f = ap (λ l. 108 ∷ 101 ∷ 110 ∷ 40 ∷ l) (append_under s _ _ _ refl)
  atom_laid at (Parens e) r f =
      ap (λ l. 40 ∷ l) (append_joined _ _ _ _ _ _ (expr_laid at e (MarkToken RightParen ∷ r) refl) (expr_laid line e
      (MarkToken RightParen ∷ []) refl) refl)

-- after a comma
pub more_follow : (at : Place) (es : List Expr) (r : List Token) → Follows at r → Follows at (more_then es r)
unfolding laid more_then
more_follow at [] r f = f
more_follow at (e ∷ es) r f = refl

pub more_laid : (at : Place) (es : List Expr) (r : List Token) → Follows at r → laid (at_left at Operand) (more_then es r)
    ≡ laid (at_left line Operand) (more_then es []) ++ laid (at_left at Operand) r
unfolding laid more_then
more_laid at [] r f = refl
more_laid at (e ∷ es) r f =
    let rest = more_then es r in let none = more_then es [] in
    append_apart (44 ∷ []) _ _ _ (expr_apart at e rest) (expr_apart line e none) (expr_laid at e rest (more_follow at es r f))
    (expr_laid line e none (more_follow line es [] (end_follows line))) (more_laid at es r f)

-- a comma is formatted after an operand as at the start of a line
more_begun : (es : List Expr) → laid (at_left line Operand) (more_then es []) ≡ in_line (more_then es [])
unfolding laid more_then
more_begun [] = refl
more_begun (e ∷ es) = refl

-- an expression, and others after commas
pub more_behind : (e : Expr) (es : List Expr)
    → in_line (expr_then e (more_then es [])) ≡ in_line (expr_then e []) ++ in_line (more_then es [])
more_behind e es =
    expr_laid line e (more_then es []) (more_follow line es [] (end_follows line))
    ∙ ap (λ l. in_line (expr_then e []) ++ l) (more_begun es)
