-- An error that is passed on, and what the first token implies about the tree that the tokens
-- spell.
pub use Rattle.shared_lemmas.proofs.Lists.{same_rest}
use Rattle.std.proofs.Common.{◌≡◌, ◌≢◌, ◌<◌, ◌⊎◌, inl, inr, ℕ, List, [], ◌∷◌, Result, refl, ap, ◌∙◌, arith}
use Rattle.std.specs.Result.{IsErrAnd, IfErr}
use Rattle.std.proofs.lemmas.Result.{err_from_is_err_and}
use Rattle.syntax.specs.declared.cursor.Stuck.{Stuck}
use Rattle.syntax.specs.declared.cursor.Stuck.TheVariants.{OutOfMemory}
use Rattle.syntax.specs.declared.token.Word.TheVariants.{And as WordAnd, False as WordFalse, Len as WordLen}
use Rattle.syntax.specs.declared.token.Word.TheVariants.{Not as WordNot, Or as WordOr, True as WordTrue}
use Rattle.syntax.specs.declared.token.Mark.{Mark}
use Rattle.syntax.specs.declared.token.Mark.TheVariants.{LeftParen, RightParen, LeftBracket, RightBracket, Comma, Minus}
use Rattle.syntax_tree.specs.declared.tree.Relation.{Relation}
use Rattle.syntax_tree.specs.declared.tree.Sign.{Sign}
use Rattle.syntax_tree.specs.declared.tree.Operator.{Operator}
use Rattle.syntax.specs.Token.{Token, NameToken, NumberToken, WordToken, MarkToken}
use Rattle.syntax_tree.specs.Tree.{Expr, Or, Conjs, NoConj, OrConj, Conj, And, Negs, NoNeg, AndNeg, Neg, Plainly, Not, Cmp}
use Rattle.syntax_tree.specs.Tree.{Alone, Compare, Sum, Add, Terms, NoTerm, AddTerm, Prod, Multiply, Factors, NoFactor}
use Rattle.syntax_tree.specs.Tree.{MultiplyFactor, Unary, Positive, Negative, Atom, Number, True, False, Name, Element}
use Rattle.syntax_tree.specs.Tree.{Length, Parens}
use Rattle.syntax.specs.Spelling.{relation_mark, sign_mark, operator_mark, expr_then, conjs_then, conj_then, negs_then}
use Rattle.syntax.specs.Spelling.{neg_then, cmp_then, sum_then, terms_then, prod_then, factors_then, unary_then}
use Rattle.syntax.specs.Spelling.{atom_then, more_then}
use Rattle.syntax.specs.Reading.{binds, list_level, or_level, and_level, relation_level, sign_level, operator_level, bracket_level}
use Rattle.syntax.proofs.ExprSpellings.{begins, atom_begins, cmp_begins, relation_binds, sign_binds, operator_binds}

-- for any chain that the tokens spell, if what follows it binds less tightly, these tokens spell
-- the end of the chain
abbrev pub LeavesEnd : {First More : Type 0} → (First → List Token → List Token) → (More → List Token → List Token) → ℕ
    → List Token → List Token → Type 0
LeavesEnd {First} {More} first others level tokens left =
    (x : First) (all : More) (rest : List Token) → binds rest < level → tokens ≡ first x (others all rest)
    → (end : More) × (left ≡ others end rest)

-- what holds for the error of an operand of `?` holds for the error that `?` returns
pub passed_on : {T A : Type 0} (r : Result T Stuck) (e : Stuck) → IsErrAnd r (λ y. y ≡ e) → (e ≢ OutOfMemory → A)
    → IfErr r (λ stuck. stuck ≢ OutOfMemory → A)
passed_on r e failed refusal =
    let exit = err_from_is_err_and r failed in
    rw exit.1 (λ room. refusal (λ is. room (exit.2 ∙ is)))

-- What follows the first token of an atom.

pub true_atom : (a : Atom) (ts r : List Token) → WordToken WordTrue ∷ ts ≡ atom_then a r → ts ≡ r
unfolding atom_then
true_atom True ts r same = cc
true_atom _ ts r same = cc

pub false_atom : (a : Atom) (ts r : List Token) → WordToken WordFalse ∷ ts ≡ atom_then a r → ts ≡ r
unfolding atom_then
false_atom False ts r same = cc
false_atom _ ts r same = cc

pub number_atom : (a : Atom) (n : ℕ) (ts r : List Token) → NumberToken n ∷ ts ≡ atom_then a r → ts ≡ r
unfolding atom_then
number_atom (Number m) n ts r same = cc
number_atom _ n ts r same = cc

pub length_atom : (a : Atom) (ts r : List Token) → WordToken WordLen ∷ ts ≡ atom_then a r
    → (x : List ℕ) × (ts ≡ MarkToken LeftParen ∷ NameToken x ∷ MarkToken RightParen ∷ r)
unfolding atom_then
length_atom (Length x) ts r same = (x, cc)
length_atom _ ts r same = cc

pub name_alone : (a : Atom) (x : List ℕ) (ts r : List Token) → ((rest : List Token) → ts ≢ MarkToken LeftBracket ∷ rest)
    → NameToken x ∷ ts ≡ atom_then a r → ts ≡ r
unfolding atom_then
name_alone (Name y) x ts r none same = cc
name_alone (Element y e) x ts r none same = absurd (none _ (same_rest same))
name_alone _ x ts r none same = cc

pub name_indexed : (a : Atom) (x : List ℕ) (ts r : List Token) → binds r < bracket_level
    → NameToken x ∷ MarkToken LeftBracket ∷ ts ≡ atom_then a r
    → (e : Expr) × (ts ≡ expr_then e (MarkToken RightBracket ∷ r))
unfolding atom_then
name_indexed (Name y) x ts r ends same = absurd (omega (arith, ap binds (same_rest same)))
name_indexed (Element y e) x ts r ends same = (e, same_rest (same_rest same))
name_indexed _ x ts r ends same = cc

pub marked_atom : (a : Atom) (m : Mark) (ts r : List Token) → MarkToken m ∷ ts ≡ atom_then a r
    → (e : Expr) × (MarkToken m ∷ ts ≡ MarkToken LeftParen ∷ expr_then e (MarkToken RightParen ∷ r))
unfolding atom_then
marked_atom (Parens e) m ts r same = (e, same)
marked_atom _ m ts r same = cc

-- the first token is none that an atom starts with
pub record BeginsNoAtom (ts : List Token) : Type 0 where
  pub number : (n : ℕ) (rest : List Token) → ts ≢ NumberToken n ∷ rest
  pub is_true : (rest : List Token) → ts ≢ WordToken WordTrue ∷ rest
  pub is_false : (rest : List Token) → ts ≢ WordToken WordFalse ∷ rest
  pub is_length : (rest : List Token) → ts ≢ WordToken WordLen ∷ rest
  pub name : (x : List ℕ) (rest : List Token) → ts ≢ NameToken x ∷ rest
  pub mark : (m : Mark) (rest : List Token) → ts ≢ MarkToken m ∷ rest

pub no_atom : (ts : List Token) → BeginsNoAtom ts → (a : Atom) (r : List Token) → ts ≢ atom_then a r
unfolding atom_then
no_atom ts none (Number n) r same = none.number _ _ same
no_atom ts none True r same = none.is_true _ same
no_atom ts none False r same = none.is_false _ same
no_atom ts none (Name x) r same = none.name _ _ same
no_atom ts none (Element x e) r same = none.name _ _ same
no_atom ts none (Length x) r same = none.is_length _ same
no_atom ts none (Parens e) r same = none.mark _ _ same

-- What an operand leaves of its chain: another operand after a word or mark of the chain, or what
-- follows the chain.

pub expr_opened : (e : Expr) (ts r : List Token) → ts ≡ expr_then e r → (d : Conj) × (ds : Conjs) × (ts ≡ conj_then d (conjs_then ds r))
unfolding expr_then
expr_opened (Or d ds) ts r same = (d, ds, same)

pub conjs_opened : (cs : Conjs) (ts r : List Token) → binds r < or_level → WordToken WordOr ∷ ts ≡ conjs_then cs r
    → (d : Conj) × (ds : Conjs) × (ts ≡ conj_then d (conjs_then ds r))
unfolding conjs_then
conjs_opened NoConj ts r ends same = absurd (omega (arith, ap binds same))
conjs_opened (OrConj d ds) ts r ends same = (d, ds, same_rest same)

pub conjs_closed : (cs : Conjs) (ts r : List Token) → ((rest : List Token) → ts ≢ WordToken WordOr ∷ rest) → ts ≡ conjs_then cs r → ts ≡ r
unfolding conjs_then
conjs_closed NoConj ts r none same = same
conjs_closed (OrConj d ds) ts r none same = absurd (none _ same)

pub conj_opened : (c : Conj) (ts r : List Token) → ts ≡ conj_then c r → (n : Neg) × (ns : Negs) × (ts ≡ neg_then n (negs_then ns r))
unfolding conj_then
conj_opened (And n ns) ts r same = (n, ns, same)

pub negs_opened : (ns : Negs) (ts r : List Token) → binds r < and_level → WordToken WordAnd ∷ ts ≡ negs_then ns r
    → (m : Neg) × (ms : Negs) × (ts ≡ neg_then m (negs_then ms r))
unfolding negs_then
negs_opened NoNeg ts r ends same = absurd (omega (arith, ap binds same))
negs_opened (AndNeg m ms) ts r ends same = (m, ms, same_rest same)

pub negs_closed : (ns : Negs) (ts r : List Token) → ((rest : List Token) → ts ≢ WordToken WordAnd ∷ rest) → ts ≡ negs_then ns r → ts ≡ r
unfolding negs_then
negs_closed NoNeg ts r none same = same
negs_closed (AndNeg m ms) ts r none same = absurd (none _ same)

pub neg_plain : (n : Neg) (ts r : List Token) → ((rest : List Token) → ts ≢ WordToken WordNot ∷ rest)
    → ts ≡ neg_then n r → (c : Cmp) × (ts ≡ cmp_then c r)
unfolding neg_then
neg_plain (Plainly c) ts r none same = (c, same)
neg_plain (Not c) ts r none same = absurd (none _ same)

pub neg_denied : (n : Neg) (ts r : List Token) → WordToken WordNot ∷ ts ≡ neg_then n r → (c : Cmp) × (ts ≡ cmp_then c r)
unfolding neg_then
neg_denied (Plainly c) ts r same = absurd (omega (arith, ap begins same, cmp_begins c r))
neg_denied (Not c) ts r same = (c, same_rest same)

-- what follows the left side of a comparison, or a sum alone
pub record Compared (ts r : List Token) : Type 0 where
  pub left : Sum
  pub after : List Token
  pub spelled : ts ≡ sum_then left after
  pub ends : binds after < sign_level
  pub right : (after ≡ r) ⊎ ((o : Relation) × (t : Sum) × (after ≡ MarkToken (relation_mark o) ∷ sum_then t r))

pub cmp_opened : (c : Cmp) (ts r : List Token) → binds r < relation_level → ts ≡ cmp_then c r → Compared ts r
unfolding cmp_then
cmp_opened (Alone s) ts r ends same = record { left = s; after = r; spelled = same; ends = omega arith; right = inl refl }
cmp_opened (Compare s o t) ts r ends same = record {
  left = s;
  after = MarkToken (relation_mark o) ∷ sum_then t r;
  spelled = same;
  ends = omega (arith, relation_binds o (sum_then t r));
  right = inr (o, t, refl);
}

pub cmp_alone : {ts r : List Token} (c : Compared ts r) (left : List Token)
    → ((o : Relation) (rest : List Token) → left ≢ MarkToken (relation_mark o) ∷ rest) → left ≡ c.after → left ≡ r
cmp_alone c left none same = elim c.right [ inl e ↦ same ∙ e | inr w ↦ absurd (none w.0 _ (same ∙ w.2)) ]

pub cmp_compared_to : {ts r : List Token} (c : Compared ts r) (o : Relation) (left : List Token)
    → binds r < relation_level → MarkToken (relation_mark o) ∷ left ≡ c.after → (t : Sum) × (left ≡ sum_then t r)
cmp_compared_to c o left ends same =
    elim c.right [ inl e ↦ absurd (omega (arith, relation_binds o left, ap binds (same ∙ e))) | inr w ↦ (w.1, same_rest (same ∙ w.2)) ]

pub sum_opened : (s : Sum) (ts r : List Token) → ts ≡ sum_then s r → (p : Prod) × (us : Terms) × (ts ≡ prod_then p (terms_then us r))
unfolding sum_then
sum_opened (Add p us) ts r same = (p, us, same)

pub terms_opened : (us : Terms) (o : Sign) (ts r : List Token) → binds r < sign_level
    → MarkToken (sign_mark o) ∷ ts ≡ terms_then us r → (p : Prod) × (vs : Terms) × (ts ≡ prod_then p (terms_then vs r))
unfolding terms_then
terms_opened NoTerm o ts r ends same = absurd (omega (arith, ap binds same, sign_binds o ts))
terms_opened (AddTerm t p vs) o ts r ends same = (p, vs, same_rest same)

pub terms_closed : (us : Terms) (ts r : List Token)
    → ((o : Sign) (rest : List Token) → ts ≢ MarkToken (sign_mark o) ∷ rest) → ts ≡ terms_then us r → ts ≡ r
unfolding terms_then
terms_closed NoTerm ts r none same = same
terms_closed (AddTerm o p vs) ts r none same = absurd (none o _ same)

pub prod_opened : (p : Prod) (ts r : List Token) → ts ≡ prod_then p r
    → (u : Unary) × (fs : Factors) × (ts ≡ unary_then u (factors_then fs r))
unfolding prod_then
prod_opened (Multiply u fs) ts r same = (u, fs, same)

pub factors_opened : (fs : Factors) (o : Operator) (ts r : List Token) → binds r < operator_level
    → MarkToken (operator_mark o) ∷ ts ≡ factors_then fs r
    → (u : Unary) × (gs : Factors) × (ts ≡ unary_then u (factors_then gs r))
unfolding factors_then
factors_opened NoFactor o ts r ends same = absurd (omega (arith, ap binds same, operator_binds o ts))
factors_opened (MultiplyFactor t u gs) o ts r ends same = (u, gs, same_rest same)

pub factors_closed : (fs : Factors) (ts r : List Token)
    → ((o : Operator) (rest : List Token) → ts ≢ MarkToken (operator_mark o) ∷ rest) → ts ≡ factors_then fs r → ts ≡ r
unfolding factors_then
factors_closed NoFactor ts r none same = same
factors_closed (MultiplyFactor o u gs) ts r none same = absurd (none o _ same)

pub unary_plain : (u : Unary) (ts r : List Token) → ((rest : List Token) → ts ≢ MarkToken Minus ∷ rest)
    → ts ≡ unary_then u r → (a : Atom) × (ts ≡ atom_then a r)
unfolding unary_then
unary_plain (Positive a) ts r none same = (a, same)
unary_plain (Negative a) ts r none same = absurd (none _ same)

pub unary_signed : (u : Unary) (ts r : List Token) → MarkToken Minus ∷ ts ≡ unary_then u r → (a : Atom) × (ts ≡ atom_then a r)
unfolding unary_then
unary_signed (Positive a) ts r same = absurd (omega (arith, ap begins same, atom_begins a r))
unary_signed (Negative a) ts r same = (a, same_rest same)

pub more_opened : (es : List Expr) (ts r : List Token) → binds r < list_level → MarkToken Comma ∷ ts ≡ more_then es r
    → (e : Expr) × (fs : List Expr) × (ts ≡ expr_then e (more_then fs r))
unfolding more_then
more_opened [] ts r ends same = absurd (omega (arith, ap binds same))
more_opened (e ∷ fs) ts r ends same = (e, fs, same_rest same)

pub more_closed : (es : List Expr) (ts r : List Token) → ((rest : List Token) → ts ≢ MarkToken Comma ∷ rest) → ts ≡ more_then es r → ts ≡ r
unfolding more_then
more_closed [] ts r none same = same
more_closed (e ∷ fs) ts r none same = absurd (none _ same)
