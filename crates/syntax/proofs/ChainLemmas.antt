-- How a chain is spelled, with one more operand after it.
use Rattle.std.proofs.Common.{◌≡◌, List, [], ◌∷◌, ◌++◌, Some, None, true, false, Box, Vec, Global, refl, ap, sym, ◌∙◌, append_assoc, append-nil}
use Rattle.syntax_tree.specs.declared.tree.Expr.{Expr as rExpr, roll-Expr}
use Rattle.syntax_tree.specs.declared.tree.Conj.{Conj as rConj, roll-Conj}
use Rattle.syntax_tree.specs.declared.tree.Neg.{Neg as rNeg, roll-Neg}
use Rattle.syntax_tree.specs.declared.tree.Cmp.{Cmp as rCmp, roll-Cmp}
use Rattle.syntax_tree.specs.declared.tree.Compared.{roll-Compared}
use Rattle.syntax_tree.specs.declared.tree.Sum.{Sum as rSum, roll-Sum}
use Rattle.syntax_tree.specs.declared.tree.Relation.{Relation}
use Rattle.syntax_tree.specs.declared.tree.Prod.{Prod as rProd, roll-Prod}
use Rattle.syntax_tree.specs.declared.tree.Unary.{Unary as rUnary}
use Rattle.syntax_tree.specs.declared.tree.Sign.{Sign}
use Rattle.syntax_tree.specs.declared.tree.Term.{Term as rTerm, Term' as rSigned, roll-Term}
use Rattle.syntax_tree.specs.declared.tree.Factor.{Factor as rFactor}
use Rattle.syntax.specs.declared.token.Word.TheVariants.{And as WordAnd, Not as WordNot, Or as WordOr}
use Rattle.syntax.specs.declared.token.Mark.TheVariants.{Comma}
use Rattle.syntax.specs.Token.{Token, WordToken, MarkToken}
use Rattle.syntax_tree.specs.Tree.{Terms, NoTerm, expr, conj, neg, cmp, sum, prod, unary, term, conjs, negs, terms, factors, exprs}
use Rattle.syntax.specs.Reading.{AddsExprs}
use Rattle.syntax.specs.Spelling.{expr_then, conj_then, conjs_then, neg_then, negs_then, cmp_then, sum_then}
use Rattle.syntax.specs.Spelling.{relation_mark, prod_then, terms_then, unary_then, factors_then, more_then, exprs_then}
use Rattle.syntax.specs.Spelling.{sign_mark, operator_mark}
use Rattle.syntax_tree.proofs.RowLemmas.{expr_built, conj_built, neg_built, cmp_alone, cmp_compared, sum_built, term_built, prod_built}

-- equal tokens are equal after one more token
pub behind : {t : Token} {ts us : List Token} → ts ≡ us → t ∷ ts ≡ t ∷ us
behind {t} e = ap (λ l. t ∷ l) e

-- tokens that start with one token, in two ways, are equal after it
pub behind_first : {t u : Token} {ts us vs : List Token} → ts ≡ t ∷ us → ts ≡ u ∷ vs → us ≡ vs
behind_first found same = cc

-- one more item was read and added to those of a list
pub read_more : {X : Type 0} (spell : List X → List Token → List Token) (xs : List X) (x : X) (r : List Token) {ys : List X}
    {ts before used : List Token} → ts ≡ spell xs before → before ≡ used → spell (xs ++ x ∷ []) r ≡ spell xs used
    → ys ≡ xs ++ x ∷ [] → ts ≡ spell ys r
read_more spell xs x r spelled is push pushed = spelled ∙ ap (spell xs) is ∙ sym push ∙ ap (λ l. spell l r) (sym pushed)

pub conjs_then-push : (cs : List rConj) (c : rConj) (r : List Token)
    → conjs_then (conjs (cs ++ c ∷ [])) r ≡ conjs_then (conjs cs) (WordToken WordOr ∷ conj_then (conj c) r)
unfolding conjs_then
conjs_then-push [] c r = refl
conjs_then-push (d ∷ cs) c r = ap (λ l. WordToken WordOr ∷ conj_then (conj d) l) (conjs_then-push cs c r)

pub negs_then-push : (ns : List rNeg) (n : rNeg) (r : List Token)
    → negs_then (negs (ns ++ n ∷ [])) r ≡ negs_then (negs ns) (WordToken WordAnd ∷ neg_then (neg n) r)
unfolding negs_then
negs_then-push [] n r = refl
negs_then-push (m ∷ ns) n r = ap (λ l. WordToken WordAnd ∷ neg_then (neg m) l) (negs_then-push ns n r)

pub factors_then-push : (fs : List rFactor) (f : rFactor) (r : List Token)
    → factors_then (factors (fs ++ f ∷ [])) r ≡ factors_then (factors fs)
    (MarkToken (operator_mark f.operator) ∷ unary_then (unary f.operand) r)
unfolding factors_then
factors_then-push [] f r = refl
factors_then-push (g ∷ fs) f r = ap (λ l. MarkToken (operator_mark g.operator) ∷ unary_then (unary g.operand) l) (factors_then-push fs f r)

pub more_then-push : (es : List rExpr) (e : rExpr) (r : List Token)
    → more_then (exprs (es ++ e ∷ [])) r ≡ more_then (exprs es) (MarkToken Comma ∷ expr_then (expr e) r)
unfolding more_then
more_then-push [] e r = refl
more_then-push (d ∷ es) e r = ap (λ l. MarkToken Comma ∷ expr_then (expr d) l) (more_then-push es e r)

-- a term, and a chain after it
term_then : (t : rTerm) (ts us : List Token) (rest more : Terms) → terms_then rest ts ≡ terms_then more us
    → terms_then (term t rest) ts ≡ terms_then (term t more) us
unfolding terms_then term
term_then (rSigned sign p) ts us rest more e = ap (λ l. MarkToken (sign_mark sign) ∷ prod_then (prod p) l) e

pub terms_then-push : (ts : List rTerm) (sign : Sign) (p : rProd) (r : List Token)
    → terms_then (terms (ts ++ roll-Term (record { sign = sign; operand = p }) ∷ [])) r ≡ terms_then (terms ts)
    (MarkToken (sign_mark sign) ∷ prod_then (prod p) r)
unfolding terms_then
terms_then-push [] sign p r = ap (λ t. terms_then t r) (term_built sign p NoTerm)
terms_then-push (t ∷ ts) sign p r = term_then t _ _ _ _ (terms_then-push ts sign p r)

-- A value is spelled by the tokens that spell its parts.

pub expr_then_built : (c : rConj) (v : Vec rConj Global) (r : List Token)
    → conj_then (conj c) (conjs_then (conjs v.items) r) ≡ expr_then (expr (roll-Expr (record { first = c; rest = v }))) r
unfolding expr_then
expr_then_built c v r = ap (λ e. expr_then e r) (sym (expr_built c v))

pub conj_then_built : (n : rNeg) (v : Vec rNeg Global) (r : List Token)
    → neg_then (neg n) (negs_then (negs v.items) r) ≡ conj_then (conj (roll-Conj (record { first = n; rest = v }))) r
unfolding conj_then
conj_then_built n v r = ap (λ e. conj_then e r) (sym (conj_built n v))

pub neg_then_plain : (c : rCmp) (r : List Token)
    → cmp_then (cmp c) r ≡ neg_then (neg (roll-Neg (record { negated = false; comparison = c }))) r
unfolding neg_then
neg_then_plain c r = ap (λ e. neg_then e r) (sym (neg_built false c))

pub neg_then_not : (c : rCmp) (r : List Token)
    → WordToken WordNot ∷ cmp_then (cmp c) r ≡ neg_then (neg (roll-Neg (record { negated = true; comparison = c }))) r
unfolding neg_then
neg_then_not c r = ap (λ e. neg_then e r) (sym (neg_built true c))

pub cmp_then_alone : (s : rSum) (r : List Token) → sum_then (sum s) r ≡ cmp_then (cmp (roll-Cmp (record { left = s; right = None }))) r
unfolding cmp_then
cmp_then_alone s r = ap (λ e. cmp_then e r) (sym (cmp_alone s))

pub cmp_then_compared : (s : rSum) (relation : Relation) (t : Box rSum Global) (u : rSum) (r : List Token) → t.value ≡ u
    → sum_then (sum s) (MarkToken (relation_mark relation) ∷ sum_then (sum u) r)
    ≡ cmp_then (cmp (roll-Cmp (record {
      left = s;
      right = Some (roll-Compared (record { relation = relation; right = t }));
    }))) r
unfolding cmp_then
cmp_then_compared s relation t u r is =
    ap (λ v. sum_then (sum s) (MarkToken (relation_mark relation) ∷ sum_then (sum v) r)) (sym is)
    ∙ ap (λ e. cmp_then e r) (sym (cmp_compared s relation t))

pub sum_then_built : (p : rProd) (v : Vec rTerm Global) (r : List Token)
    → prod_then (prod p) (terms_then (terms v.items) r) ≡ sum_then (sum (roll-Sum (record { first = p; rest = v }))) r
unfolding sum_then
sum_then_built p v r = ap (λ e. sum_then e r) (sym (sum_built p v))

pub prod_then_built : (u : rUnary) (v : Vec rFactor Global) (r : List Token)
    → unary_then (unary u) (factors_then (factors v.items) r)
    ≡ prod_then (prod (roll-Prod (record { first = u; rest = v }))) r
unfolding prod_then
prod_then_built u v r = ap (λ e. prod_then e r) (sym (prod_built u v))

-- One more operand was read and added to the chain.
module _ (ts before after r : List Token) where
  pub conjs_read : (first : rConj) (cs ds : List rConj) (c : rConj)
      → ts ≡ conj_then (conj first) (conjs_then (conjs cs) before) → before ≡ WordToken WordOr ∷ after
      → after ≡ conj_then (conj c) r → ds ≡ cs ++ c ∷ [] → ts ≡ conj_then (conj first) (conjs_then (conjs ds) r)
  conjs_read first cs ds c spelled word operand pushed =
      read_more (λ l t. conj_then (conj first) (conjs_then (conjs l) t)) cs c r spelled (word ∙ behind operand)
      (ap (conj_then (conj first)) (conjs_then-push cs c r)) pushed

  pub negs_read : (first : rNeg) (ns ms : List rNeg) (n : rNeg) → ts ≡ neg_then (neg first) (negs_then (negs ns) before)
      → before ≡ WordToken WordAnd ∷ after → after ≡ neg_then (neg n) r → ms ≡ ns ++ n ∷ []
      → ts ≡ neg_then (neg first) (negs_then (negs ms) r)
  negs_read first ns ms n spelled word operand pushed =
      read_more (λ l t. neg_then (neg first) (negs_then (negs l) t)) ns n r spelled (word ∙ behind operand)
      (ap (neg_then (neg first)) (negs_then-push ns n r)) pushed

  pub terms_read : (first : rProd) (us vs : List rTerm) (sign : Sign) (p : rProd)
      → ts ≡ prod_then (prod first) (terms_then (terms us) before) → before ≡ MarkToken (sign_mark sign) ∷ after
      → after ≡ prod_then (prod p) r → vs ≡ us ++ roll-Term (record { sign = sign; operand = p }) ∷ []
      → ts ≡ prod_then (prod first) (terms_then (terms vs) r)
  terms_read first us vs sign p spelled mark operand pushed =
      read_more (λ l t. prod_then (prod first) (terms_then (terms l) t)) us _ r spelled (mark ∙ behind operand)
      (ap (prod_then (prod first)) (terms_then-push us sign p r)) pushed

  pub factors_read : (first : rUnary) (fs gs : List rFactor) (f : rFactor)
      → ts ≡ unary_then (unary first) (factors_then (factors fs) before)
      → before ≡ MarkToken (operator_mark f.operator) ∷ after → after ≡ unary_then (unary f.operand) r
      → gs ≡ fs ++ f ∷ [] → ts ≡ unary_then (unary first) (factors_then (factors gs) r)
  factors_read first fs gs f spelled mark operand pushed =
      read_more (λ l t. unary_then (unary first) (factors_then (factors l) t)) fs f r spelled (mark ∙ behind operand)
      (ap (unary_then (unary first)) (factors_then-push fs f r)) pushed

  pub more_read : (earlier es fs : List rExpr) (e : rExpr) → AddsExprs earlier es ts before
      → before ≡ MarkToken Comma ∷ after → after ≡ expr_then (expr e) r → fs ≡ es ++ e ∷ [] → AddsExprs earlier fs ts r
  more_read earlier es fs e read comma operand pushed = record {
    others = read.others ++ e ∷ [];
    added = pushed ∙ ap (λ l. l ++ e ∷ []) read.added ∙ append_assoc earlier read.others (e ∷ []);
    spelled = read.spelled ∙ ap (more_then (exprs read.others)) (comma ∙ behind operand) ∙ sym (more_then-push read.others e r);
  }

pub adds_to_none : (earlier all : List rExpr) (before rest : List Token) → earlier ≡ []
    → AddsExprs earlier all before rest → before ≡ more_then (exprs all) rest
adds_to_none earlier all before rest none read =
    read.spelled ∙ ap (λ l. more_then (exprs l) rest) (sym (read.added ∙ ap (λ l. l ++ read.others) none))

pub adds_to_one : (earlier all : List rExpr) (first : rExpr) (ts before rest : List Token)
    → ts ≡ expr_then (expr first) before → earlier ≡ first ∷ [] → AddsExprs earlier all before rest
    → ts ≡ exprs_then (exprs all) rest
unfolding exprs_then
adds_to_one earlier all first ts before rest spelled one read =
    spelled
    ∙ ap (expr_then (expr first)) read.spelled
    ∙ ap (λ l. exprs_then (exprs l) rest) (sym (read.added ∙ ap (λ l. l ++ read.others) one))

pub none_added : (earlier : List rExpr) (ts : List Token) → AddsExprs earlier earlier ts ts
unfolding more_then
none_added earlier ts = record { others = []; added = sym (append-nil earlier); spelled = refl }
