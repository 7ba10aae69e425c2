-- No statement starts inside an expression.
use Rattle.std.proofs.Common.{◌≡◌, false, List, [], ◌∷◌, refl, ◌∙◌}
use Rattle.syntax_tree.specs.declared.tree.Relation.{Relation}
use Rattle.syntax_tree.specs.declared.tree.Relation.TheVariants.{Less}
use Rattle.syntax_tree.specs.declared.tree.Sign.{Sign}
use Rattle.syntax_tree.specs.declared.tree.Sign.TheVariants.{Plus, Minus}
use Rattle.syntax_tree.specs.declared.tree.Operator.{Operator}
use Rattle.syntax_tree.specs.declared.tree.Operator.TheVariants.{Times}
use Rattle.syntax.specs.Spelling.{relation_mark, sign_mark, operator_mark, expr_then, conjs_then, conj_then, negs_then}
use Rattle.syntax.specs.Spelling.{neg_then, cmp_then, sum_then, terms_then, prod_then, factors_then, unary_then}
use Rattle.syntax.specs.Spelling.{atom_then, more_then, exprs_then}
use Rattle.syntax.specs.Token.{Token, MarkToken}
use Rattle.syntax_tree.specs.Tree.{Expr, Or, Conjs, NoConj, OrConj, Conj, And, Negs, NoNeg, AndNeg, Neg, Plainly, Not, Cmp}
use Rattle.syntax_tree.specs.Tree.{Alone, Compare, Sum, Add, Terms, NoTerm, AddTerm, Multiply, Factors, NoFactor}
use Rattle.syntax_tree.specs.Tree.{MultiplyFactor, Unary, Positive, Negative, Atom, Number, True, False, Name, Element}
use Rattle.syntax_tree.specs.Tree.{Length, Parens}
use Rattle.statement_places.specs.Starts.{token_starts}

relation_starts : (o : Relation) (ts : List Token) → token_starts false (MarkToken (relation_mark o) ∷ ts) ≡ token_starts false ts
unfolding token_starts
relation_starts Less ts = refl
relation_starts _ ts = refl

sign_starts : (o : Sign) (ts : List Token) → token_starts false (MarkToken (sign_mark o) ∷ ts) ≡ token_starts false ts
unfolding token_starts
sign_starts Plus ts = refl
sign_starts Minus ts = refl

operator_starts : (o : Operator) (ts : List Token) → token_starts false (MarkToken (operator_mark o) ∷ ts) ≡ token_starts false ts
unfolding token_starts
operator_starts Times ts = refl
operator_starts _ ts = refl

mutual
  unfolding token_starts expr_then conjs_then conj_then negs_then neg_then cmp_then sum_then terms_then prod_then factors_then unary_then atom_then

  pub expr_starts : (e : Expr) (r : List Token) → token_starts false (expr_then e r) ≡ token_starts false r
  expr_starts (Or c cs) r = conj_starts c (conjs_then cs r) ∙ conjs_starts cs r

  conjs_starts : (cs : Conjs) (r : List Token) → token_starts false (conjs_then cs r) ≡ token_starts false r
  conjs_starts NoConj r = refl
  conjs_starts (OrConj c cs) r = conj_starts c (conjs_then cs r) ∙ conjs_starts cs r

  conj_starts : (c : Conj) (r : List Token) → token_starts false (conj_then c r) ≡ token_starts false r
  conj_starts (And n ns) r = neg_starts n (negs_then ns r) ∙ negs_starts ns r

  negs_starts : (ns : Negs) (r : List Token) → token_starts false (negs_then ns r) ≡ token_starts false r
  negs_starts NoNeg r = refl
  negs_starts (AndNeg n ns) r = neg_starts n (negs_then ns r) ∙ negs_starts ns r

  neg_starts : (n : Neg) (r : List Token) → token_starts false (neg_then n r) ≡ token_starts false r
  neg_starts (Plainly c) r = cmp_starts c r
  neg_starts (Not c) r = cmp_starts c r

  cmp_starts : (c : Cmp) (r : List Token) → token_starts false (cmp_then c r) ≡ token_starts false r
  cmp_starts (Alone s) r = sum_starts s r
  cmp_starts (Compare s o t) r =
      sum_starts s (MarkToken (relation_mark o) ∷ sum_then t r) ∙ relation_starts o (sum_then t r) ∙ sum_starts t r

  sum_starts : (s : Sum) (r : List Token) → token_starts false (sum_then s r) ≡ token_starts false r
  sum_starts (Add (Multiply u fs) ts) r =
      let more = terms_then ts r in
      unary_starts u (factors_then fs more) ∙ factors_starts fs more ∙ terms_starts ts r

  terms_starts : (ts : Terms) (r : List Token) → token_starts false (terms_then ts r) ≡ token_starts false r
  terms_starts NoTerm r = refl
  terms_starts (AddTerm o (Multiply u fs) ts) r =
      let more = terms_then ts r in
      sign_starts o (unary_then u (factors_then fs more)) ∙ unary_starts u (factors_then fs more)
      ∙ factors_starts fs more ∙ terms_starts ts r

  factors_starts : (fs : Factors) (r : List Token) → token_starts false (factors_then fs r) ≡ token_starts false r
  factors_starts NoFactor r = refl
  factors_starts (MultiplyFactor o u fs) r =
      operator_starts o (unary_then u (factors_then fs r)) ∙ unary_starts u (factors_then fs r) ∙ factors_starts fs r

  unary_starts : (u : Unary) (r : List Token) → token_starts false (unary_then u r) ≡ token_starts false r
  unary_starts (Positive a) r = atom_starts a r
  unary_starts (Negative a) r = atom_starts a r

  atom_starts : (a : Atom) (r : List Token) → token_starts false (atom_then a r) ≡ token_starts false r
  atom_starts (Number n) r = refl
  atom_starts True r = refl
  atom_starts False r = refl
  atom_starts (Name x) r = refl
  atom_starts (Element s e) r = expr_starts e _
  atom_starts (Length s) r = refl
  atom_starts (Parens e) r = expr_starts e _

pub more_starts : (es : List Expr) (r : List Token) → token_starts false (more_then es r) ≡ token_starts false r
unfolding token_starts more_then
more_starts [] r = refl
more_starts (e ∷ es) r = expr_starts e (more_then es r) ∙ more_starts es r

pub exprs_starts : (es : List Expr) (r : List Token) → token_starts false (exprs_then es r) ≡ token_starts false r
unfolding token_starts exprs_then
exprs_starts [] r = refl
exprs_starts (e ∷ es) r = expr_starts e (more_then es r) ∙ more_starts es r
