-- No two statements, and no two blocks, have the same spelling if no `else` or `rescue` follows them.
use Rattle.std.proofs.Common.{◌≡◌, ◌≢◌, ◌<◌, ℕ, List, [], ◌∷◌, refl, ap, sym, arith}
use Rattle.std.proofs.lemmas.Bool.{eqb-false}
use Rattle.syntax.specs.declared.token.Word.{Word}
use Rattle.syntax.specs.declared.token.Word.TheVariants.{As as WordAs, Async as WordAsync, Else as WordElse, Parts as WordParts}
use Rattle.syntax.specs.declared.token.Word.TheVariants.{Fault as WordFault, Finish as WordFinish, If as WordIf}
use Rattle.syntax.specs.declared.token.Word.TheVariants.{Print as WordPrint, Rescue as WordRescue, Skip as WordSkip, Split as WordSplit}
use Rattle.syntax.specs.declared.token.Word.TheVariants.{Var as WordVar, While as WordWhile}
use Rattle.syntax.specs.declared.token.Mark.{Mark}
use Rattle.syntax.specs.declared.token.Mark.TheVariants.{LeftParen, RightParen, LeftBrace, RightBrace, LeftBracket}
use Rattle.syntax.specs.declared.token.Mark.TheVariants.{RightBracket, Comma, Semicolon, Becomes}
use Rattle.syntax.specs.Token.{Token, NameToken, WordToken, MarkToken}
use Rattle.syntax_tree.specs.Tree.{Expr, Stmt, Skip, Var, Assign, Store, Print, Fault, If, IfElse, While, Split, Parts, Call, Async}
use Rattle.syntax_tree.specs.Tree.{Finish, Rescue, Block, End, Then}
use Rattle.syntax.specs.Spelling.{expr_then, more_then, exprs_then, stmt_then, block_then}
use Rattle.syntax.specs.Reading.{binds, mark_binds, list_level, or_level, else_level}
use Rattle.syntax.proofs.ExprSpellings.{begins, expr_begins, expr_one}
use Rattle.syntax.proofs.ListSpellings.{lists_one}

pub more_bind : (es : List Expr) (r : List Token) → binds r < list_level → binds (more_then es r) < or_level
unfolding more_then
more_bind [] r ends = omega arith
more_bind (e ∷ es) r ends = omega arith

more_parts : (e f : Expr) (es fs : List Expr) (r s : List Token) → binds r < list_level → binds s < list_level
    → more_then (e ∷ es) r ≡ more_then (f ∷ fs) s → (e ≡ f) × (more_then es r ≡ more_then fs s)
unfolding more_then
more_parts e f es fs r s ends other same =
    expr_one e f (more_then es r) (more_then fs s) (more_bind es r ends) (more_bind fs s other) (cc)

pub more_one : (x y : List Expr) (r s : List Token) → binds r < list_level → binds s < list_level
    → more_then x r ≡ more_then y s → (x ≡ y) × (r ≡ s)
unfolding more_then
more_one = lists_one more_then (λ r. refl) (λ e es r. omega arith) more_parts

pub exprs_one : (x y : List Expr) (r s : List Token) → binds r < list_level → binds s < list_level → begins r < 1
    → begins s < 1 → exprs_then x r ≡ exprs_then y s → (x ≡ y) × (r ≡ s)
unfolding exprs_then
exprs_one [] [] r s ends other closed closes same = (refl, same)
exprs_one [] (f ∷ fs) r s ends other closed closes same = absurd (omega (arith, ap begins same, expr_begins f (more_then fs s)))
exprs_one (e ∷ es) [] r s ends other closed closes same = absurd (omega (arith, ap begins same, expr_begins e (more_then es r)))
exprs_one (e ∷ es) (f ∷ fs) r s ends other closed closes same =
    let first = expr_one e f (more_then es r) (more_then fs s) (more_bind es r ends) (more_bind fs s other) same in
    let more = more_one es fs r s ends other first.1 in
    (cc (first.0, more.0), more.1)

-- expressions before a mark that doesn't continue them
closed_one : (e f : Expr) (m : Mark) (ts us : List Token) → mark_binds m ≡ 0
    → expr_then e (MarkToken m ∷ ts) ≡ expr_then f (MarkToken m ∷ us) → (e ≡ f) × (ts ≡ us)
closed_one e f m ts us loose same =
    let one = expr_one e f (MarkToken m ∷ ts) (MarkToken m ∷ us) (omega (arith, loose)) (omega (arith, loose)) same in
    let rests = one.1 in
    (one.0, cc)

pub stmt_binds : (x : Stmt) (r : List Token) → binds (stmt_then x r) ≡ 0
unfolding stmt_then
stmt_binds Skip r = refl
stmt_binds _ r = refl

-- no statement starts with the brace that closes its block
pub stmt_begins_with_no_brace : (x : Stmt) (r : List Token) {s : List Token} → MarkToken RightBrace ∷ s ≢ stmt_then x r
unfolding stmt_then
stmt_begins_with_no_brace Skip r same = cc
stmt_begins_with_no_brace _ r same = cc

pub block_binds : (b : Block) (r : List Token) → binds (block_then b r) ≡ 0
unfolding block_then
block_binds End r = refl
block_binds (Then s b) r = stmt_binds s (block_then b r)

-- which kind of statement starts with these tokens
abbrev pub word_kind : Word → ℕ
word_kind WordSkip = 1
word_kind WordVar = 2
word_kind WordPrint = 3
word_kind WordFault = 4
word_kind WordIf = 5
word_kind WordWhile = 6
word_kind WordSplit = 7
word_kind WordAsync = 8
word_kind WordFinish = 9
word_kind WordParts = 13
word_kind _ = 0

abbrev pub mark_kind : Mark → ℕ
mark_kind Becomes = 10
mark_kind LeftBracket = 11
mark_kind LeftParen = 12
mark_kind _ = 0

abbrev pub kind : List Token → ℕ
kind (WordToken w ∷ _) = word_kind w
kind (NameToken _ ∷ MarkToken m ∷ _) = mark_kind m
kind _ = 0

mutual
  unfolding stmt_then

  pub stmt_one : (x y : Stmt) (r s : List Token) → binds r < else_level → binds s < else_level
      → stmt_then x r ≡ stmt_then y s → (x ≡ y) × (r ≡ s)
  stmt_one Skip Skip r s ends other same = (refl, cc)
  stmt_one (Var x e) (Var y f) r s ends other same =
      let value = closed_one e f Semicolon r s refl (cc) in (cc (value.0), value.1)
  stmt_one (Assign x e) (Assign y f) r s ends other same =
      let value = closed_one e f Semicolon r s refl (cc) in (cc (value.0), value.1)
  stmt_one (Store x i e) (Store y j f) r s ends other same =
      let index = closed_one i j RightBracket (MarkToken Becomes ∷ expr_then e (MarkToken Semicolon ∷ r))
      (MarkToken Becomes ∷ expr_then f (MarkToken Semicolon ∷ s)) refl (cc) in
      let mark = index.1 in
      let value = closed_one e f Semicolon r s refl (cc) in
      (cc (index.0, value.0), value.1)
  stmt_one (Print e es) (Print f fs) r s ends other same =
      let first = expr_one e f (more_then es (MarkToken Semicolon ∷ r)) (more_then fs (MarkToken Semicolon ∷ s))
      (more_bind es _ (omega arith)) (more_bind fs _ (omega arith)) (cc) in
      let others = more_one es fs (MarkToken Semicolon ∷ r) (MarkToken Semicolon ∷ s) (omega arith) (omega arith) first.1 in
      let last = others.1 in
      (cc (first.0, others.0), cc)
  stmt_one (Fault e) (Fault f) r s ends other same =
      let value = closed_one e f Semicolon r s refl (cc) in (cc (value.0), value.1)
  stmt_one (If e b) (If f c) r s ends other same =
      let guard = closed_one e f LeftBrace (block_then b r) (block_then c s) refl (cc) in
      let body = block_one b c r s guard.1 in
      (cc (guard.0, body.0), body.1)
  stmt_one (If e b) (IfElse f c d) r s ends other same =
      let behind = WordToken WordElse ∷ MarkToken LeftBrace ∷ block_then d s in
      let guard = closed_one e f LeftBrace (block_then b r) (block_then c behind) refl (cc) in
      let body = block_one b c r behind guard.1 in
      absurd (omega (arith, ap binds body.1))
  stmt_one (IfElse e b d) (If f c) r s ends other same =
      let behind = WordToken WordElse ∷ MarkToken LeftBrace ∷ block_then d r in
      let guard = closed_one e f LeftBrace (block_then b behind) (block_then c s) refl (cc) in
      let body = block_one b c behind s guard.1 in
      absurd (omega (arith, ap binds body.1))
  stmt_one (IfElse e b d) (IfElse f c g) r s ends other same =
      let one = WordToken WordElse ∷ MarkToken LeftBrace ∷ block_then d r in
      let two = WordToken WordElse ∷ MarkToken LeftBrace ∷ block_then g s in
      let guard = closed_one e f LeftBrace (block_then b one) (block_then c two) refl (cc) in
      let body = block_one b c one two guard.1 in
      let word = body.1 in
      let otherwise = block_one d g r s (cc) in
      (cc (guard.0, body.0, otherwise.0), otherwise.1)
  stmt_one (While e b) (While f c) r s ends other same =
      let guard = closed_one e f LeftBrace (block_then b r) (block_then c s) refl (cc) in
      let body = block_one b c r s guard.1 in
      (cc (guard.0, body.0), body.1)
  stmt_one (Split x e y z b) (Split u f v w c) r s ends other same =
      let at = expr_one e f (WordToken WordAs ∷ NameToken y ∷ MarkToken Comma ∷ NameToken z ∷ MarkToken LeftBrace
      ∷ block_then b r) (WordToken WordAs ∷ NameToken v ∷ MarkToken Comma ∷ NameToken w ∷ MarkToken LeftBrace
      ∷ block_then c s) (omega arith) (omega arith) (cc) in
      let sides = at.1 in
      let body = block_one b c r s (cc) in
      (cc (at.0, body.0), body.1)
  stmt_one (Parts x e y z b) (Parts u f v w c) r s ends other same =
      let size = expr_one e f (WordToken WordAs ∷ NameToken y ∷ MarkToken Comma ∷ NameToken z ∷ MarkToken LeftBrace
      ∷ block_then b r) (WordToken WordAs ∷ NameToken v ∷ MarkToken Comma ∷ NameToken w ∷ MarkToken LeftBrace
      ∷ block_then c s) (omega arith) (omega arith) (cc) in
      let names = size.1 in
      let body = block_one b c r s (cc) in
      (cc (size.0, body.0), body.1)
  stmt_one (Call x es) (Call y fs) r s ends other same =
      let arguments = exprs_one es fs (MarkToken RightParen ∷ MarkToken Semicolon ∷ r)
      (MarkToken RightParen ∷ MarkToken Semicolon ∷ s) (omega arith) (omega arith) (omega arith) (omega arith)
      (cc) in
      let last = arguments.1 in
      (cc (arguments.0), cc)
  stmt_one (Async b) (Async c) r s ends other same =
      let body = block_one b c r s (cc) in (ap Async body.0, body.1)
  stmt_one (Finish b) (Finish c) r s ends other same =
      let body = block_one b c r s (cc) in (ap Finish body.0, body.1)
  stmt_one (Finish b) (Rescue c y d) r s ends other same =
      let behind = WordToken WordRescue ∷ NameToken y ∷ MarkToken LeftBrace ∷ block_then d s in
      let body = block_one b c r behind (cc) in
      absurd (omega (arith, ends, ap binds body.1))
  stmt_one (Rescue b x d) (Finish c) r s ends other same =
      let behind = WordToken WordRescue ∷ NameToken x ∷ MarkToken LeftBrace ∷ block_then d r in
      let body = block_one b c behind s (cc) in
      absurd (omega (arith, other, ap binds body.1))
  stmt_one (Rescue b x d) (Rescue c y g) r s ends other same =
      let one = WordToken WordRescue ∷ NameToken x ∷ MarkToken LeftBrace ∷ block_then d r in
      let two = WordToken WordRescue ∷ NameToken y ∷ MarkToken LeftBrace ∷ block_then g s in
      let body = block_one b c one two (cc) in
      let word = body.1 in
      let handler = block_one d g r s (cc) in
      (cc (body.0, handler.0), handler.1)
  stmt_one _ _ r s ends other same = absurd (eqb-false _ _ refl (ap kind same))

  pub block_one : (x y : Block) (r s : List Token) → block_then x r ≡ block_then y s → (x ≡ y) × (r ≡ s)
  block_one End End r s same = (refl, cc)
  block_one End (Then q c) r s same = absurd (stmt_begins_with_no_brace q (block_then c s) same)
  block_one (Then p b) End r s same = absurd (stmt_begins_with_no_brace p (block_then b r) (sym same))
  block_one (Then p b) (Then q c) r s same =
      let first = stmt_one p q (block_then b r) (block_then c s) (omega (arith, block_binds b r)) (omega (arith, block_binds c s)) same in
      let more = block_one b c r s first.1 in
      (cc (first.0, more.0), more.1)
