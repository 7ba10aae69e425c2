-- The text of the tokens of each production of an expression consists of the texts of its parts.
use Rattle.std.proofs.Common.{◌≡◌, ℕ, Bool, true, false, if◌then◌else◌, List, [], ◌∷◌, ◌++◌, codes, Result, Ok, Err}
use Rattle.std.proofs.Common.{OnOk, is_ok, Some, None, Box, String, Global, refl, ap, sym, ◌∙◌, append_assoc}
use Rattle.std.proofs.Common.{append-nil, ◌+◌, ◌<◌, ◌≤◌, length, drop, get_or}
use Rattle.std.proofs.lemmas.List.{at_drop_more, at_drop_all}
use Rattle.std.proofs.lemmas.Result.{on_ok_weaker}
use Rattle.std.specs.Fmt.{decimal}
use Rattle.std.specs.String.{string_bytes}
use Rattle.syntax_tree.specs.declared.tree.Expr.{Expr as rExpr, out-Expr}
use Rattle.syntax_tree.specs.declared.tree.Conj.{Conj as rConj, out-Conj}
use Rattle.syntax_tree.specs.declared.tree.Neg.{Neg as rNeg, out-Neg}
use Rattle.syntax_tree.specs.declared.tree.Cmp.{Cmp as rCmp, out-Cmp}
use Rattle.syntax_tree.specs.declared.tree.Compared.{Compared as rCompared, out-Compared}
use Rattle.syntax_tree.specs.declared.tree.Sum.{Sum as rSum, out-Sum}
use Rattle.syntax_tree.specs.declared.tree.Term.{Term as rTerm, out-Term, roll-out-Term}
use Rattle.syntax_tree.specs.declared.tree.Prod.{Prod as rProd, out-Prod}
use Rattle.syntax_tree.specs.declared.tree.Factor.{Factor as rFactor}
use Rattle.syntax_tree.specs.declared.tree.Atom.TheVariants.{Number as rNumber, True as rTrue, False as rFalse}
use Rattle.syntax_tree.specs.declared.tree.Atom.TheVariants.{Name as rName, Element as rElement, Length as rLength}
use Rattle.syntax_tree.specs.declared.tree.Atom.TheVariants.{Parens as rParens}
use Rattle.syntax.specs.declared.token.Mark.TheVariants.{RightParen, RightBracket}
use Rattle.syntax.specs.Canonical.{laid, in_line}
use Rattle.syntax.specs.declared.token.Left.TheVariants.{Operand}
use Rattle.syntax.specs.Lexical.{mark_text}
use Rattle.syntax.specs.Spelling.{expr_then, conj_then, conjs_then, neg_then, negs_then, cmp_then, sum_then, prod_then}
use Rattle.syntax.specs.Spelling.{terms_then, unary_then, factors_then, atom_then, more_then, exprs_then, relation_mark}
use Rattle.syntax.specs.Spelling.{sign_mark, operator_mark}
use Rattle.syntax.specs.Token.{Token, MarkToken}
use Rattle.syntax_tree.specs.Tree.{Atom, Cmp, expr, conj, neg, cmp, sum, prod, term, unary, atom, negated, negative, conjs}
use Rattle.syntax_tree.specs.Tree.{negs, terms, factors, exprs}
use Rattle.syntax_tree.proofs.Atoms.{expr_is, conj_is, neg_is, cmp_is_alone, cmp_is_compared, sum_is, prod_is}
use Rattle.syntax.proofs.LaidLemmas.{at_left, line, end_follows, conjs_follow, negs_follow, terms_follow}
use Rattle.syntax.proofs.LaidLemmas.{factors_follow, more_behind, relation_follows, expr_apart, neg_apart, conj_apart}
use Rattle.syntax.proofs.LaidLemmas.{cmp_apart, sum_apart, prod_apart, unary_apart, relation_laid, sign_laid}
use Rattle.syntax.proofs.LaidLemmas.{operator_laid, expr_laid, conj_laid, neg_laid, sum_laid, prod_laid, unary_laid}
use Rattle.syntax_tree.proofs.RowLemmas.{term_built}

-- what is added in two steps
pub then_adds : (before first second : List ℕ) {between behind : List ℕ} → between ≡ before ++ first → behind ≡ between ++ second
    → behind ≡ before ++ (first ++ second)
then_adds before first second e f = f ∙ ap (λ l. l ++ second) e ∙ append_assoc before first second

-- what is added and what is left, if a part of that is added
pub adds_part : (before part rest : List ℕ) {behind left all : List ℕ} → before ++ left ≡ all → behind ≡ before ++ part → left
    ≡ part ++ rest → behind ++ rest ≡ all
adds_part before part rest was added parts =
    ap (λ l. l ++ rest) added ∙ append_assoc before part rest ∙ ap (λ l. before ++ l) (sym parts) ∙ was

-- if nothing is left, everything is added
pub adds_all : (now : List ℕ) {left all : List ℕ} → now ++ left ≡ all → left ≡ [] → now ≡ all
adds_all now was none = sym (append-nil now) ∙ ap (λ l. now ++ l) (sym none) ∙ was

-- The texts of the items of a list, one after the other.
module _ {A : Type 0} (text : List A → List ℕ) where
  -- what is written, and the text of the items that are left, are what was written before, and these tokens
  abbrev pub IsWriting : List A → ℕ → String Global → String Global → List Token → Type 0
  IsWriting xs i now before tokens = string_bytes now ++ text (drop i xs) ≡ string_bytes before ++ in_line tokens

  -- one more is written
  pub adds_next : (next : List A → List ℕ) (xs : List A) (i : ℕ) (before part : List ℕ) {x : A} {behind all : List ℕ}
      → x ≡ get_or xs i x → i < length xs → before ++ text (drop i xs) ≡ all → behind ≡ before ++ part
      → text (x ∷ drop (i + 1) xs) ≡ part ++ next (drop (i + 1) xs) → behind ++ next (drop (i + 1) xs) ≡ all
  adds_next next xs i before part {x} is inside so_far added more =
      adds_part before part (next (drop (i + 1) xs)) so_far added
      (at_drop_more text xs i x inside ∙ ap (λ y. text (y ∷ drop (i + 1) xs)) (sym is) ∙ more)

  -- none is left
  pub adds_last : (xs : List A) (i : ℕ) (before : List ℕ) {all : List ℕ} → length xs ≤ i → before ++ text (drop i xs) ≡ all
      → text [] ≡ [] → before ≡ all
  adds_last xs i before at_end so_far none = adds_all before so_far (at_drop_all text xs i at_end ∙ none)

pub ok_map3 : {X E P Q R S : Type 0} (r : Result X E) → OnOk r P → OnOk r Q → OnOk r R → (P → Q → R → S) → OnOk r S
ok_map3 (Ok x) p q s f = f p q s
ok_map3 (Err e) p q s f = tt

-- what a push adds
pub pushed : {X E : Type 0} (r : Result X E) (now added kept : List ℕ) → now ≡ (if is_ok r then added else kept) → OnOk r (now ≡ added)
pushed (Ok x) now added kept e = e
pushed (Err e) now added kept f = tt

-- one more text, by the last call
pub then_ok : {X E : Type 0} (r : Result X E) (before first second behind : List ℕ) {between : List ℕ} → between ≡ before ++ first
    → OnOk r (behind ≡ between ++ second) → OnOk r (behind ≡ before ++ (first ++ second))
then_ok r before first second behind e = on_ok_weaker r (then_adds before first second e)

-- the text under another name
pub ok_adds_equal : {X E : Type 0} (r : Result X E) (before now : List ℕ) {text whole : List ℕ} → OnOk r (now ≡ before ++ text) → whole ≡ text
    → OnOk r (now ≡ before ++ whole)
ok_adds_equal r before now h e = on_ok_weaker r (λ f. f ∙ ap (λ l. before ++ l) (sym e)) h

-- the texts of what follows first operands

abbrev pub conjs_text : List rConj → List ℕ
conjs_text cs = laid (at_left line Operand) (conjs_then (conjs cs) [])

abbrev pub negs_text : List rNeg → List ℕ
negs_text ns = laid (at_left line Operand) (negs_then (negs ns) [])

abbrev pub terms_text : List rTerm → List ℕ
terms_text ts = laid (at_left line Operand) (terms_then (terms ts) [])

abbrev pub factors_text : List rFactor → List ℕ
factors_text fs = laid (at_left line Operand) (factors_then (factors fs) [])

-- expressions with a comma before each
abbrev pub more_text : List rExpr → List ℕ
more_text es = in_line (more_then (exprs es) [])

pub expr_text : (e : rExpr) → in_line (expr_then (expr e) [])
    ≡ in_line (conj_then (conj (out-Expr e).first) []) ++ conjs_text (out-Expr e).rest.items
unfolding expr_then
expr_text e =
    let rest = conjs (out-Expr e).rest.items in
    ap (λ x. in_line (expr_then x [])) (expr_is e)
    ∙ conj_laid line (conj (out-Expr e).first) (conjs_then rest []) (conjs_follow line rest [] (end_follows line))

pub conjs_text_none : conjs_text [] ≡ []
unfolding laid conjs_then
conjs_text_none = refl

pub conjs_text_more : (c : rConj) (cs : List rConj) → conjs_text (c ∷ cs)
    ≡ (codes " or " ++ in_line (conj_then (conj c) [])) ++ conjs_text cs
unfolding laid conjs_then
conjs_text_more c cs =
    ap (λ l. 32 ∷ 111 ∷ 114 ∷ l) (conj_apart line (conj c) (conjs_then (conjs cs) [])
    ∙ ap (λ l. 32 ∷ l) (conj_laid line (conj c) (conjs_then (conjs cs) []) (conjs_follow line (conjs cs) [] (end_follows line))))

pub conj_text : (e : rConj) → in_line (conj_then (conj e) [])
    ≡ in_line (neg_then (neg (out-Conj e).first) []) ++ negs_text (out-Conj e).rest.items
unfolding conj_then
conj_text e =
    let rest = negs (out-Conj e).rest.items in
    ap (λ x. in_line (conj_then x [])) (conj_is e)
    ∙ neg_laid line (neg (out-Conj e).first) (negs_then rest []) (negs_follow line rest [] (end_follows line))

pub negs_text_none : negs_text [] ≡ []
unfolding laid negs_then
negs_text_none = refl

pub negs_text_more : (n : rNeg) (ns : List rNeg) → negs_text (n ∷ ns) ≡ (codes " and " ++ in_line (neg_then (neg n) [])) ++ negs_text ns
unfolding laid negs_then
negs_text_more n ns =
    ap (λ l. 32 ∷ 97 ∷ 110 ∷ 100 ∷ l) (neg_apart line (neg n) (negs_then (negs ns) [])
    ∙ ap (λ l. 32 ∷ l) (neg_laid line (neg n) (negs_then (negs ns) []) (negs_follow line (negs ns) [] (end_follows line))))

negated_text : (b : Bool) (c : Cmp) → in_line (neg_then (negated b c) []) ≡ (if b then codes "not " else []) ++ in_line (cmp_then c [])
unfolding laid neg_then
negated_text true c = ap (λ l. 110 ∷ 111 ∷ 116 ∷ l) (cmp_apart line c [])
negated_text false c = refl

pub neg_text : (e : rNeg) → in_line (neg_then (neg e) [])
    ≡ (if (out-Neg e).negated then codes "not " else []) ++ in_line (cmp_then (cmp (out-Neg e).comparison) [])
neg_text e = ap (λ x. in_line (neg_then x [])) (neg_is e) ∙ negated_text (out-Neg e).negated (cmp (out-Neg e).comparison)

pub cmp_text_alone : (e : rCmp) → (out-Cmp e).right ≡ None → in_line (cmp_then (cmp e) []) ≡ in_line (sum_then (sum (out-Cmp e).left) [])
unfolding cmp_then
cmp_text_alone e none = ap (λ x. in_line (cmp_then x [])) (cmp_is_alone e none)

pub cmp_text_compared : (e : rCmp) (r : rCompared) → (out-Cmp e).right ≡ Some r → in_line (cmp_then (cmp e) [])
    ≡ in_line (sum_then (sum (out-Cmp e).left) []) ++ ((32 ∷ (mark_text (relation_mark
    (out-Compared r).relation) ++ 32 ∷ [])) ++ in_line (sum_then (sum (out-Compared r).right.value) []))
unfolding cmp_then
cmp_text_compared e r some =
    let left = sum (out-Cmp e).left in let o = (out-Compared r).relation in let right = sum_then (sum (out-Compared r).right.value) [] in
    ap (λ x. in_line (cmp_then x [])) (cmp_is_compared e r some)
    ∙ sum_laid line left (MarkToken (relation_mark o) ∷ right) (relation_follows line o right)
    ∙ ap (λ l. in_line (sum_then left []) ++ l) (relation_laid line o right right (sum_apart line (sum (out-Compared r).right.value) []))

pub sum_text : (e : rSum) → in_line (sum_then (sum e) [])
    ≡ in_line (prod_then (prod (out-Sum e).first) []) ++ terms_text (out-Sum e).rest.items
unfolding sum_then
sum_text e =
    let rest = terms (out-Sum e).rest.items in
    ap (λ x. in_line (sum_then x [])) (sum_is e)
    ∙ prod_laid line (prod (out-Sum e).first) (terms_then rest []) (terms_follow line rest [] (end_follows line))

pub terms_text_none : terms_text [] ≡ []
unfolding laid terms_then
terms_text_none = refl

pub terms_text_more : (t : rTerm) (ts : List rTerm) → terms_text (t ∷ ts)
    ≡ ((32 ∷ (mark_text (sign_mark (out-Term t).sign) ++ 32 ∷ [])) ++ in_line (prod_then (prod (out-Term t).operand) [])) ++ terms_text ts
unfolding terms_then
terms_text_more t ts =
    let o = (out-Term t).sign in let p = prod (out-Term t).operand in let rest = terms_then (terms ts) [] in
    let mark : List ℕ = 32 ∷ (mark_text (sign_mark o) ++ 32 ∷ []) in
    ap (λ x. laid (at_left line Operand) (terms_then x [])) (ap (λ x. term x (terms ts)) (sym (roll-out-Term t))
    ∙ term_built o (out-Term t).operand (terms ts))
    ∙ sign_laid line o (prod_then p rest) (prod_then p rest) (prod_apart line p rest)
    ∙ ap (λ l. mark ++ l) (prod_laid line p rest (terms_follow line (terms ts) [] (end_follows line)))
    ∙ sym (append_assoc mark (in_line (prod_then p [])) (terms_text ts))

pub prod_text : (e : rProd) → in_line (prod_then (prod e) [])
    ≡ in_line (unary_then (unary (out-Prod e).first) []) ++ factors_text (out-Prod e).rest.items
unfolding prod_then
prod_text e =
    let rest = factors (out-Prod e).rest.items in
    ap (λ x. in_line (prod_then x [])) (prod_is e)
    ∙ unary_laid line (unary (out-Prod e).first) (factors_then rest []) (factors_follow line rest [] (end_follows line))

pub factors_text_none : factors_text [] ≡ []
unfolding laid factors_then
factors_text_none = refl

pub factors_text_more : (f : rFactor) (fs : List rFactor) → factors_text (f ∷ fs)
    ≡ ((32 ∷ (mark_text (operator_mark f.operator) ++ 32 ∷ [])) ++ in_line (unary_then (unary f.operand) [])) ++ factors_text fs
unfolding factors_then
factors_text_more f fs =
    let u = unary f.operand in let rest = factors_then (factors fs) [] in
    let mark : List ℕ = 32 ∷ (mark_text (operator_mark f.operator) ++ 32 ∷ []) in
    operator_laid line f.operator (unary_then u rest) (unary_then u rest) (unary_apart line u rest)
    ∙ ap (λ l. mark ++ l) (unary_laid line u rest (factors_follow line (factors fs) [] (end_follows line)))
    ∙ sym (append_assoc mark (in_line (unary_then u [])) (factors_text fs))

pub unary_text : (b : Bool) (a : Atom) → in_line (unary_then (negative b a) []) ≡ (if b then codes "-" else []) ++ in_line (atom_then a [])
unfolding laid unary_then
unary_text true a = refl
unary_text false a = refl

pub atom_text_Number : (n : ℕ) → in_line (atom_then (atom (rNumber n)) []) ≡ decimal n
unfolding laid atom_then atom
atom_text_Number n = append-nil (decimal n)

pub atom_text_True : in_line (atom_then (atom rTrue) []) ≡ codes "true"
unfolding laid atom_then atom
atom_text_True = refl

pub atom_text_False : in_line (atom_then (atom rFalse) []) ≡ codes "false"
unfolding laid atom_then atom
atom_text_False = refl

pub atom_text_Name : (s : String Global) → in_line (atom_then (atom (rName s)) []) ≡ string_bytes s
unfolding laid atom_then atom
atom_text_Name s = append-nil (string_bytes s)

pub atom_text_Element : (s : String Global) (b : Box rExpr Global) → in_line (atom_then (atom (rElement s b)) [])
    ≡ string_bytes s ++ (codes "[" ++ (in_line (expr_then (expr b.value) []) ++ codes "]"))
unfolding laid atom_then atom
atom_text_Element s b = ap (λ l. string_bytes s ++ (91 ∷ l)) (expr_laid line (expr b.value) (MarkToken RightBracket ∷ []) refl)

pub atom_text_Length : (s : String Global) → in_line (atom_then (atom (rLength s)) []) ≡ codes "len(" ++ (string_bytes s ++ codes ")")
unfolding laid atom_then atom
atom_text_Length s = refl

pub atom_text_Parens : (b : Box rExpr Global) → in_line (atom_then (atom (rParens b)) [])
    ≡ codes "(" ++ (in_line (expr_then (expr b.value) []) ++ codes ")")
unfolding laid atom_then atom
atom_text_Parens b = ap (λ l. 40 ∷ l) (expr_laid line (expr b.value) (MarkToken RightParen ∷ []) refl)

pub listed_none : in_line (exprs_then [] []) ≡ []
unfolding laid exprs_then
listed_none = refl

pub listed_more : (e : rExpr) (es : List rExpr)
    → in_line (exprs_then (exprs (e ∷ es)) []) ≡ in_line (expr_then (expr e) []) ++ more_text es
unfolding exprs_then
listed_more e es = more_behind (expr e) (exprs es)

pub more_text_none : more_text [] ≡ []
unfolding laid more_then
more_text_none = refl

pub more_text_more : (e : rExpr) (es : List rExpr)
    → more_text (e ∷ es) ≡ (codes ", " ++ in_line (expr_then (expr e) [])) ++ more_text es
unfolding laid more_then
more_text_more e es =
    ap (λ l. 44 ∷ l) (expr_apart line (expr e) (more_then (exprs es) []) ∙ ap (λ l. 32 ∷ l) (more_behind (expr e) (exprs es)))
