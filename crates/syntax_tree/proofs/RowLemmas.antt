-- The tree of a value consists of the trees of its parts.
use Rattle.std.proofs.Common.{◌≡◌, Some, None, Bool, Box, Vec, String, Global, refl, ap, ◌∙◌}
use Rattle.std.specs.String.{string_bytes}
use mathlib.Core.Former.{Count}
use Rattle.syntax_tree.specs.Tree.{Or, And, Add, Terms, Multiply, OrConj, AndNeg, AddTerm, MultiplyFactor, Alone, Compare}
use Rattle.syntax_tree.specs.Tree.{Then, If, IfElse, While, Split, Parts, Async, Finish, Rescue, expr, conj, neg, cmp}
use Rattle.syntax_tree.specs.Tree.{compared, compared_to, sum, term, prod, unary, atom, negated, negative, conjs, row_conjs, negs}
use Rattle.syntax_tree.specs.Tree.{row_negs, terms, row_terms, factors, row_factors, stmt, conditional, block, row_block}
use Rattle.syntax_tree.specs.declared.tree.Relation.{Relation}
use Rattle.syntax_tree.specs.declared.tree.Sign.{Sign}
use Rattle.syntax_tree.specs.declared.tree.Expr.{Expr as rExpr, Expr' as rOr, roll-Expr, Row_of-Conj, end_of-Conj}
use Rattle.syntax_tree.specs.declared.tree.Expr.{more_of-Conj, items-the_row-Conj, items_hidden-the_row-Conj-1}
use Rattle.syntax_tree.specs.declared.tree.Conj.{Conj as rConj, Conj' as rAnd, roll-Conj, Row_of-Neg, end_of-Neg}
use Rattle.syntax_tree.specs.declared.tree.Conj.{more_of-Neg, items-the_row-Neg, items_hidden-the_row-Neg-0}
use Rattle.syntax_tree.specs.declared.tree.Neg.{Neg as rNeg, roll-Neg}
use Rattle.syntax_tree.specs.declared.tree.Cmp.{Cmp as rCmp, roll-Cmp}
use Rattle.syntax_tree.specs.declared.tree.Compared.{roll-Compared}
use Rattle.syntax_tree.specs.declared.tree.Sum.{Sum as rSum, Sum' as rAdd, roll-Sum, Row_of-Term, end_of-Term, more_of-Term}
use Rattle.syntax_tree.specs.declared.tree.Sum.{items-the_row-Term, items_hidden-the_row-Term-3}
use Rattle.syntax_tree.specs.declared.tree.Term.{Term as rTerm, roll-Term}
use Rattle.syntax_tree.specs.declared.tree.Prod.{Prod as rProd, Prod' as rMultiply, roll-Prod, Row_of-Factor, end_of-Factor}
use Rattle.syntax_tree.specs.declared.tree.Prod.{more_of-Factor, items-the_row-Factor, items_hidden-the_row-Factor-2}
use Rattle.syntax_tree.specs.declared.tree.Factor.{Factor as rFactor}
use Rattle.syntax_tree.specs.declared.tree.Unary.{Unary as rUnary}
use Rattle.syntax_tree.specs.declared.tree.Stmt.{Stmt as rStmt, Row_of-Stmt, end_of-Stmt, more_of-Stmt, items-the_row-Stmt}
use Rattle.syntax_tree.specs.declared.tree.Stmt.{items_hidden-the_row-Stmt-0, Some' as some_else, If' as rIf'}
use Rattle.syntax_tree.specs.declared.tree.Stmt.{While' as rWhile', Split' as rSplit', Parts' as rParts', Async' as rAsync'}
use Rattle.syntax_tree.specs.declared.tree.Stmt.{Finish' as rFinish', Rescue' as rRescue'}
use Rattle.syntax_tree.specs.declared.tree.Stmt.TheVariants.{If as rIf, While as rWhile, Split as rSplit, Parts as rParts}
use Rattle.syntax_tree.specs.declared.tree.Stmt.TheVariants.{Async as rAsync, Finish as rFinish, Rescue as rRescue}

conjs_are : (n : Count) (row : Row_of-Conj n) → row_conjs row ≡ conjs (items-the_row-Conj n row)
unfolding row_conjs
conjs_are n end_of-Conj = refl
conjs_are n (more_of-Conj c rest) = ap (OrConj (conj c)) (conjs_are _ rest)

negs_are : (n : Count) (row : Row_of-Neg n) → row_negs row ≡ negs (items-the_row-Neg n row)
unfolding row_negs
negs_are n end_of-Neg = refl
negs_are n (more_of-Neg c rest) = ap (AndNeg (neg c)) (negs_are _ rest)

terms_are : (n : Count) (row : Row_of-Term n) → row_terms row ≡ terms (items-the_row-Term n row)
unfolding row_terms
terms_are n end_of-Term = refl
terms_are n (more_of-Term t rest) = ap (term t) (terms_are _ rest)

factors_are : (n : Count) (row : Row_of-Factor n) → row_factors row ≡ factors (items-the_row-Factor n row)
unfolding row_factors
factors_are n end_of-Factor = refl
factors_are n (more_of-Factor operator b a rest) = ap (MultiplyFactor operator (negative b (atom a))) (factors_are _ rest)

block_is : (n : Count) (row : Row_of-Stmt n) → row_block row ≡ block (items-the_row-Stmt n row)
unfolding row_block
block_is n end_of-Stmt = refl
block_is n (more_of-Stmt s rest) = ap (Then (stmt s)) (block_is _ rest)

abbrev conjs_in : rExpr → (n : Count) × Row_of-Conj n
conjs_in (rOr _ _ b) = (_, b)

abbrev negs_in : rConj → (n : Count) × Row_of-Neg n
negs_in (rAnd _ _ b) = (_, b)

abbrev terms_in : rSum → (n : Count) × Row_of-Term n
terms_in (rAdd _ _ b) = (_, b)

abbrev factors_in : rProd → (n : Count) × Row_of-Factor n
factors_in (rMultiply _ _ _ b) = (_, b)

pub expr_built : (c : rConj) (v : Vec rConj Global) → expr (roll-Expr (record { first = c; rest = v })) ≡ Or (conj c) (conjs v.items)
unfolding expr Rattle.syntax_tree.specs.declared.tree.Atom.TheBlock.hidden-the_row-Conj-1 roll-Expr denote.Hole.Carrier.roll
expr_built c v =
    let r = conjs_in (roll-Expr (record { first = c; rest = v })) in
    ap (Or (conj c)) (conjs_are r.0 r.1 ∙ ap conjs (items_hidden-the_row-Conj-1 v))

pub conj_built : (n : rNeg) (v : Vec rNeg Global) → conj (roll-Conj (record { first = n; rest = v })) ≡ And (neg n) (negs v.items)
unfolding conj Rattle.syntax_tree.specs.declared.tree.Atom.TheBlock.hidden-the_row-Neg-0 roll-Conj denote.Hole.Carrier.roll
conj_built n v =
    let r = negs_in (roll-Conj (record { first = n; rest = v })) in
    ap (And (neg n)) (negs_are r.0 r.1 ∙ ap negs (items_hidden-the_row-Neg-0 v))

pub sum_built : (p : rProd) (v : Vec rTerm Global) → sum (roll-Sum (record { first = p; rest = v })) ≡ Add (prod p) (terms v.items)
unfolding sum Rattle.syntax_tree.specs.declared.tree.Atom.TheBlock.hidden-the_row-Term-3 roll-Sum denote.Hole.Carrier.roll
sum_built p v =
    let r = terms_in (roll-Sum (record { first = p; rest = v })) in
    ap (Add (prod p)) (terms_are r.0 r.1 ∙ ap terms (items_hidden-the_row-Term-3 v))

pub prod_built : (u : rUnary) (v : Vec rFactor Global)
    → prod (roll-Prod (record { first = u; rest = v })) ≡ Multiply (unary u) (factors v.items)
unfolding prod Rattle.syntax_tree.specs.declared.tree.Atom.TheBlock.hidden-the_row-Factor-2 roll-Prod denote.Hole.Carrier.roll
prod_built u v =
    let r = factors_in (roll-Prod (record { first = u; rest = v })) in
    ap (Multiply (unary u)) (factors_are r.0 r.1 ∙ ap factors (items_hidden-the_row-Factor-2 v))

pub neg_built : (b : Bool) (c : rCmp) → neg (roll-Neg (record { negated = b; comparison = c })) ≡ negated b (cmp c)
unfolding neg roll-Neg denote.Hole.Carrier.roll
neg_built b c = refl

pub cmp_alone : (s : rSum) → cmp (roll-Cmp (record { left = s; right = None })) ≡ Alone (sum s)
unfolding cmp compared roll-Cmp denote.Hole.Carrier.roll
cmp_alone s = refl

pub cmp_compared : (s : rSum) (relation : Relation) (t : Box rSum Global)
    → cmp (roll-Cmp (record { left = s; right = Some (roll-Compared (record { relation = relation; right = t })) }))
    ≡ Compare (sum s) relation (sum t.value)
unfolding cmp compared compared_to roll-Cmp denote.Hole.Carrier.roll roll-Compared
cmp_compared s relation t = refl

pub term_built : (sign : Sign) (p : rProd) (rest : Terms)
    → term (roll-Term (record { sign = sign; operand = p })) rest ≡ AddTerm sign (prod p) rest
unfolding term roll-Term denote.Hole.Carrier.roll
term_built sign p rest = refl

abbrev block_in : rStmt → (n : Count) × Row_of-Stmt n
block_in (rIf' _ _ b _) = (_, b)
block_in (rWhile' _ _ b) = (_, b)
block_in (rSplit' _ _ _ _ _ b) = (_, b)
block_in (rParts' _ _ _ _ _ b) = (_, b)
block_in (rAsync' _ b) = (_, b)
block_in (rFinish' _ b) = (_, b)
block_in (rRescue' _ b _ _ _) = (_, b)
block_in _ = (_, end_of-Stmt)

abbrev other_in : rStmt → (n : Count) × Row_of-Stmt n
other_in (rIf' _ _ _ (some_else _ b)) = (_, b)
other_in (rRescue' _ _ _ _ c) = (_, c)
other_in _ = (_, end_of-Stmt)

pub stmt_While : (e : rExpr) (v : Vec rStmt Global) → stmt (rWhile e v) ≡ While (expr e) (block v.items)
unfolding stmt
stmt_While e v = let r = block_in (rWhile e v) in ap (While (expr e)) (block_is r.0 r.1 ∙ ap block (items_hidden-the_row-Stmt-0 v))

pub stmt_Async : (v : Vec rStmt Global) → stmt (rAsync v) ≡ Async (block v.items)
unfolding stmt
stmt_Async v = let r = block_in (rAsync v) in ap Async (block_is r.0 r.1 ∙ ap block (items_hidden-the_row-Stmt-0 v))

pub stmt_Finish : (v : Vec rStmt Global) → stmt (rFinish v) ≡ Finish (block v.items)
unfolding stmt
stmt_Finish v = let r = block_in (rFinish v) in ap Finish (block_is r.0 r.1 ∙ ap block (items_hidden-the_row-Stmt-0 v))

pub stmt_Rescue : (v : Vec rStmt Global) (x : String Global) (w : Vec rStmt Global)
    → stmt (rRescue v x w) ≡ Rescue (block v.items) (string_bytes x) (block w.items)
unfolding stmt
stmt_Rescue v x w =
    let r = block_in (rRescue v x w) in
    let q = other_in (rRescue v x w) in
    ap (λ b. Rescue b (string_bytes x) (row_block q.1)) (block_is r.0 r.1 ∙ ap block (items_hidden-the_row-Stmt-0 v))
    ∙ ap (Rescue (block v.items) (string_bytes x)) (block_is q.0 q.1 ∙ ap block (items_hidden-the_row-Stmt-0 w))

pub stmt_Split : (s : String Global) (e : rExpr) (x y : String Global) (v : Vec rStmt Global)
    → stmt (rSplit s e x y v) ≡ Split (string_bytes s) (expr e) (string_bytes x) (string_bytes y) (block v.items)
unfolding stmt
stmt_Split s e x y v =
    let r = block_in (rSplit s e x y v) in
    ap (Split (string_bytes s) (expr e) (string_bytes x) (string_bytes y))
    (block_is r.0 r.1 ∙ ap block (items_hidden-the_row-Stmt-0 v))

pub stmt_Parts : (s : String Global) (e : rExpr) (x y : String Global) (v : Vec rStmt Global)
    → stmt (rParts s e x y v) ≡ Parts (string_bytes s) (expr e) (string_bytes x) (string_bytes y) (block v.items)
unfolding stmt
stmt_Parts s e x y v =
    let r = block_in (rParts s e x y v) in
    ap (Parts (string_bytes s) (expr e) (string_bytes x) (string_bytes y))
    (block_is r.0 r.1 ∙ ap block (items_hidden-the_row-Stmt-0 v))

pub stmt_If : (e : rExpr) (v : Vec rStmt Global) → stmt (rIf e v None) ≡ If (expr e) (block v.items)
unfolding stmt conditional
stmt_If e v = let r = block_in (rIf e v None) in ap (If (expr e)) (block_is r.0 r.1 ∙ ap block (items_hidden-the_row-Stmt-0 v))

pub stmt_IfElse : (e : rExpr) (v w : Vec rStmt Global) → stmt (rIf e v (Some w)) ≡ IfElse (expr e) (block v.items) (block w.items)
unfolding stmt conditional
stmt_IfElse e v w =
    let r = block_in (rIf e v (Some w)) in
    let q = other_in (rIf e v (Some w)) in
    ap (λ b. IfElse (expr e) b (row_block q.1)) (block_is r.0 r.1 ∙ ap block (items_hidden-the_row-Stmt-0 v))
    ∙ ap (IfElse (expr e) (block v.items)) (block_is q.0 q.1 ∙ ap block (items_hidden-the_row-Stmt-0 w))
