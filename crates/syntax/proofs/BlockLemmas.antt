-- How statements and blocks are spelled.
use Rattle.std.proofs.Common.{◌≡◌, List, [], ◌∷◌, ◌++◌, Some, None, Vec, String, Global, refl, ap, sym}
use Rattle.std.specs.String.{string_bytes}
use Rattle.syntax_tree.specs.declared.tree.Expr.{Expr as rExpr}
use Rattle.syntax_tree.specs.declared.tree.Stmt.{Stmt as rStmt}
use Rattle.syntax_tree.specs.declared.tree.Stmt.TheVariants.{If as rIf, While as rWhile, Split as rSplit, Parts as rParts}
use Rattle.syntax_tree.specs.declared.tree.Stmt.TheVariants.{Async as rAsync, Finish as rFinish, Rescue as rRescue}
use Rattle.syntax.specs.declared.token.Word.TheVariants.{As as WordAs, Async as WordAsync, At as WordAt, By as WordBy, Parts as WordParts}
use Rattle.syntax.specs.declared.token.Word.TheVariants.{Else as WordElse, Finish as WordFinish, If as WordIf}
use Rattle.syntax.specs.declared.token.Word.TheVariants.{Rescue as WordRescue, Split as WordSplit, While as WordWhile}
use Rattle.syntax.specs.declared.token.Mark.TheVariants.{LeftBrace, RightBrace, Comma}
use Rattle.syntax.specs.Token.{Token, NameToken, WordToken, MarkToken}
use Rattle.syntax_tree.specs.Tree.{expr, stmt, block}
use Rattle.syntax.specs.Spelling.{expr_then, stmt_then, block_then}
use Rattle.syntax.proofs.ChainLemmas.{read_more}
use Rattle.syntax_tree.proofs.RowLemmas.{stmt_While, stmt_Async, stmt_Finish, stmt_Rescue, stmt_Split, stmt_Parts, stmt_If, stmt_IfElse}

-- statements without the brace that closes their block
unfoldable pub stmts_then : List rStmt → List Token → List Token
stmts_then [] r = r
stmts_then (s ∷ ss) r = stmt_then (stmt s) (stmts_then ss r)

pub stmts_then-push : (ss : List rStmt) (s : rStmt) (r : List Token) → stmts_then (ss ++ s ∷ []) r ≡ stmts_then ss (stmt_then (stmt s) r)
unfolding stmts_then
stmts_then-push [] s r = refl
stmts_then-push (q ∷ ss) s r = ap (stmt_then (stmt q)) (stmts_then-push ss s r)

pub block_then-block : (ss : List rStmt) (r : List Token) → block_then (block ss) r ≡ stmts_then ss (MarkToken RightBrace ∷ r)
unfolding block_then stmts_then
block_then-block [] r = refl
block_then-block (s ∷ ss) r = ap (stmt_then (stmt s)) (block_then-block ss r)

pub stmts_read : (ts before r : List Token) (ss qs : List rStmt) (s : rStmt) → ts ≡ stmts_then ss before
    → before ≡ stmt_then (stmt s) r → qs ≡ ss ++ s ∷ [] → ts ≡ stmts_then qs r
stmts_read ts before r ss qs s spelled statement pushed =
    read_more stmts_then ss s r spelled statement (stmts_then-push ss s r) pushed

pub stmt_then_If : (e : rExpr) (v : Vec rStmt Global) (r : List Token)
    → WordToken WordIf ∷ expr_then (expr e)
    (MarkToken LeftBrace ∷ block_then (block v.items) r) ≡ stmt_then (stmt (rIf e v None)) r
unfolding stmt_then
stmt_then_If e v r = ap (λ s. stmt_then s r) (sym (stmt_If e v))

pub stmt_then_IfElse : (e : rExpr) (v w : Vec rStmt Global) (r : List Token)
    → WordToken WordIf ∷ expr_then (expr e)
    (MarkToken LeftBrace ∷ block_then (block v.items)
    (WordToken WordElse ∷ MarkToken LeftBrace ∷ block_then (block w.items) r)) ≡ stmt_then (stmt (rIf e v (Some w))) r
unfolding stmt_then
stmt_then_IfElse e v w r = ap (λ s. stmt_then s r) (sym (stmt_IfElse e v w))

pub stmt_then_While : (e : rExpr) (v : Vec rStmt Global) (r : List Token)
    → WordToken WordWhile ∷ expr_then (expr e)
    (MarkToken LeftBrace ∷ block_then (block v.items) r) ≡ stmt_then (stmt (rWhile e v)) r
unfolding stmt_then
stmt_then_While e v r = ap (λ s. stmt_then s r) (sym (stmt_While e v))

pub stmt_then_Split : (x : String Global) (e : rExpr) (y z : String Global) (v : Vec rStmt Global) (r : List Token)
    → WordToken WordSplit ∷ NameToken (string_bytes x) ∷ WordToken WordAt ∷ expr_then (expr e)
    (WordToken WordAs ∷ NameToken (string_bytes y) ∷ MarkToken Comma ∷ NameToken (string_bytes z) ∷ MarkToken LeftBrace
    ∷ block_then (block v.items) r) ≡ stmt_then (stmt (rSplit x e y z v)) r
unfolding stmt_then
stmt_then_Split x e y z v r = ap (λ s. stmt_then s r) (sym (stmt_Split x e y z v))

pub stmt_then_Parts : (x : String Global) (e : rExpr) (y z : String Global) (v : Vec rStmt Global) (r : List Token)
    → WordToken WordParts ∷ NameToken (string_bytes x) ∷ WordToken WordBy ∷ expr_then (expr e)
    (WordToken WordAs ∷ NameToken (string_bytes y) ∷ MarkToken Comma ∷ NameToken (string_bytes z) ∷ MarkToken LeftBrace
    ∷ block_then (block v.items) r) ≡ stmt_then (stmt (rParts x e y z v)) r
unfolding stmt_then
stmt_then_Parts x e y z v r = ap (λ s. stmt_then s r) (sym (stmt_Parts x e y z v))

pub stmt_then_Async : (v : Vec rStmt Global) (r : List Token)
    → WordToken WordAsync ∷ MarkToken LeftBrace ∷ block_then (block v.items) r ≡ stmt_then (stmt (rAsync v)) r
unfolding stmt_then
stmt_then_Async v r = ap (λ s. stmt_then s r) (sym (stmt_Async v))

pub stmt_then_Finish : (v : Vec rStmt Global) (r : List Token)
    → WordToken WordFinish ∷ MarkToken LeftBrace ∷ block_then (block v.items) r ≡ stmt_then (stmt (rFinish v)) r
unfolding stmt_then
stmt_then_Finish v r = ap (λ s. stmt_then s r) (sym (stmt_Finish v))

pub stmt_then_Rescue : (v : Vec rStmt Global) (x : String Global) (w : Vec rStmt Global) (r : List Token)
    → WordToken WordFinish ∷ MarkToken LeftBrace ∷ block_then (block v.items)
    (WordToken WordRescue ∷ NameToken (string_bytes x) ∷ MarkToken LeftBrace ∷ block_then (block w.items) r) ≡ stmt_then (stmt (rRescue v x w)) r
unfolding stmt_then
stmt_then_Rescue v x w r = ap (λ s. stmt_then s r) (sym (stmt_Rescue v x w))
