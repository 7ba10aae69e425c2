-- What kind a statement is of, and the trees of those without blocks.
use Rattle.std.proofs.Common.{◌≡◌, ◌⊎◌, inl, inr, true, false, Option, Some, None, Vec, String, Global, refl, ap}
use Rattle.std.proofs.Common.{◌∙◌}
use Rattle.std.specs.String.{string_bytes}
use Rattle.syntax_tree.specs.declared.tree.Expr.{Expr as rExpr}
use Rattle.syntax_tree.specs.declared.tree.Stmt.{Stmt as rStmt, Skip as rSkip, Var as rVar, Assign as rAssign, Store as rStore}
use Rattle.syntax_tree.specs.declared.tree.Stmt.{Print as rPrint, Fault as rFault, Call as rCall}
use Rattle.syntax_tree.specs.declared.tree.Stmt.TheVariants.{If as rIf, While as rWhile, Split as rSplit, Parts as rParts}
use Rattle.syntax_tree.specs.declared.tree.Stmt.TheVariants.{Async as rAsync, Finish as rFinish, Rescue as rRescue}
use Rattle.syntax_tree.specs.Tree.{Skip, Var, Assign, Store, Print, Fault, Call, expr, exprs, stmt}
use Rattle.syntax.specs.Writing.{is_simple}
use Rattle.syntax_tree.proofs.RowLemmas.{stmt_If, stmt_IfElse, stmt_While, stmt_Split, stmt_Parts, stmt_Async, stmt_Finish, stmt_Rescue}

pub stmt_Skip : stmt rSkip ≡ Skip
unfolding stmt
stmt_Skip = refl

pub stmt_Var : (x : String Global) (e : rExpr) → stmt (rVar x e) ≡ Var (string_bytes x) (expr e)
unfolding stmt
stmt_Var x e = refl

pub stmt_Assign : (x : String Global) (e : rExpr) → stmt (rAssign x e) ≡ Assign (string_bytes x) (expr e)
unfolding stmt
stmt_Assign x e = refl

pub stmt_Store : (x : String Global) (i e : rExpr) → stmt (rStore x i e) ≡ Store (string_bytes x) (expr i) (expr e)
unfolding stmt
stmt_Store x i e = refl

pub stmt_Print : (e : rExpr) (es : Vec rExpr Global) → stmt (rPrint e es) ≡ Print (expr e) (exprs es.items)
unfolding stmt
stmt_Print e es = refl

pub stmt_Fault : (e : rExpr) → stmt (rFault e) ≡ Fault (expr e)
unfolding stmt
stmt_Fault e = refl

pub stmt_Call : (f : String Global) (es : Vec rExpr Global) → stmt (rCall f es) ≡ Call (string_bytes f) (exprs es.items)
unfolding stmt
stmt_Call f es = refl

-- a statement without a block is simple
pub is_simple-true : (s : rStmt) → (s ≡ rSkip) ⊎ (((x : String Global) × (e : rExpr) × (s ≡ rVar x e))
    ⊎ (((x : String Global) × (e : rExpr) × (s ≡ rAssign x e))
    ⊎ (((x : String Global) × (i : rExpr) × (e : rExpr) × (s ≡ rStore x i e))
    ⊎ (((e : rExpr) × (es : Vec rExpr Global) × (s ≡ rPrint e es))
    ⊎ (((e : rExpr) × (s ≡ rFault e)) ⊎ ((f : String Global) × (es : Vec rExpr Global) × (s ≡ rCall f es)))))))
    → is_simple (stmt s) ≡ true
is_simple-true s (inl is) = ap (λ z. is_simple (stmt z)) is ∙ ap is_simple stmt_Skip
is_simple-true s (inr (inl (x, e, is))) =
    ap (λ z. is_simple (stmt z)) is ∙ ap is_simple (stmt_Var x e)
is_simple-true s (inr (inr (inl (x, e, is)))) =
    ap (λ z. is_simple (stmt z)) is ∙ ap is_simple (stmt_Assign x e)
is_simple-true s (inr (inr (inr (inl (x, i, e, is))))) =
    ap (λ z. is_simple (stmt z)) is ∙ ap is_simple (stmt_Store x i e)
is_simple-true s (inr (inr (inr (inr (inl (e, es, is)))))) =
    ap (λ z. is_simple (stmt z)) is ∙ ap is_simple (stmt_Print e es)
is_simple-true s (inr (inr (inr (inr (inr (inl (e, is))))))) =
    ap (λ z. is_simple (stmt z)) is ∙ ap is_simple (stmt_Fault e)
is_simple-true s (inr (inr (inr (inr (inr (inr (f, es, is))))))) =
    ap (λ z. is_simple (stmt z)) is ∙ ap is_simple (stmt_Call f es)

conditional_is_not_simple : (e : rExpr) (v : Vec rStmt Global) (o : Option (Vec rStmt Global)) → is_simple (stmt (rIf e v o)) ≡ false
conditional_is_not_simple e v None = ap is_simple (stmt_If e v)
conditional_is_not_simple e v (Some w) = ap is_simple (stmt_IfElse e v w)

-- and one with a block is not
pub is_simple-false : (s : rStmt)
    → ((e : rExpr) × (v : Vec rStmt Global) × (o : Option (Vec rStmt Global)) × (s ≡ rIf e v o))
    ⊎ (((e : rExpr) × (v : Vec rStmt Global) × (s ≡ rWhile e v))
    ⊎ (((x : String Global) × (e : rExpr) × (y : String Global) × (z : String Global) × (v : Vec rStmt Global) × (s ≡ rSplit x e y z v))
    ⊎ (((x : String Global) × (e : rExpr) × (y : String Global) × (z : String Global) × (v : Vec rStmt Global) × (s ≡ rParts x e y z v))
    ⊎ (((v : Vec rStmt Global) × (s ≡ rAsync v))
    ⊎ (((v : Vec rStmt Global) × (s ≡ rFinish v))
    ⊎ ((v : Vec rStmt Global) × (x : String Global) × (w : Vec rStmt Global) × (s ≡ rRescue v x w)))))))
    → is_simple (stmt s) ≡ false
is_simple-false s (inl (e, v, o, is)) = ap (λ t. is_simple (stmt t)) is ∙ conditional_is_not_simple e v o
is_simple-false s (inr (inl (e, v, is))) = ap (λ t. is_simple (stmt t)) is ∙ ap is_simple (stmt_While e v)
is_simple-false s (inr (inr (inl (x, e, y, z, v, is)))) = ap (λ t. is_simple (stmt t)) is ∙ ap is_simple (stmt_Split x e y z v)
is_simple-false s (inr (inr (inr (inl (x, e, y, z, v, is))))) =
    ap (λ t. is_simple (stmt t)) is ∙ ap is_simple (stmt_Parts x e y z v)
is_simple-false s (inr (inr (inr (inr (inl (v, is)))))) = ap (λ t. is_simple (stmt t)) is ∙ ap is_simple (stmt_Async v)
is_simple-false s (inr (inr (inr (inr (inr (inl (v, is))))))) = ap (λ t. is_simple (stmt t)) is ∙ ap is_simple (stmt_Finish v)
is_simple-false s (inr (inr (inr (inr (inr (inr (v, x, w, is))))))) = ap (λ t. is_simple (stmt t)) is ∙ ap is_simple (stmt_Rescue v x w)
