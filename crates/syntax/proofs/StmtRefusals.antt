-- What the first tokens of a statement, a block or a list of arguments imply about the tree that
-- the tokens spell.
use Rattle.std.proofs.Common.{◌≡◌, ◌≢◌, ◌<◌, ◌⊎◌, inl, inr, ℕ, List, [], ◌∷◌, refl, ap, sym, ◌∙◌, arith}
use Rattle.std.proofs.lemmas.Bool.{eqb-false}
use Rattle.syntax.specs.declared.cursor.Stuck.{Stuck}
use Rattle.syntax.specs.declared.token.Word.{Word}
use Rattle.syntax.specs.declared.token.Word.TheVariants.{As as WordAs, Async as WordAsync, At as WordAt, By as WordBy, Parts as WordParts}
use Rattle.syntax.specs.declared.token.Word.TheVariants.{Else as WordElse, Fault as WordFault, Finish as WordFinish}
use Rattle.syntax.specs.declared.token.Word.TheVariants.{If as WordIf, Print as WordPrint, Rescue as WordRescue, Skip as WordSkip}
use Rattle.syntax.specs.declared.token.Word.TheVariants.{Split as WordSplit, Var as WordVar, While as WordWhile}
use Rattle.syntax.specs.declared.token.Mark.TheVariants.{LeftParen, RightParen, LeftBrace, RightBrace, LeftBracket}
use Rattle.syntax.specs.declared.token.Mark.TheVariants.{RightBracket, Comma, Semicolon, Becomes}
use Rattle.syntax.specs.Token.{Token, NameToken, WordToken, MarkToken}
use Rattle.syntax_tree.specs.Tree.{Expr, Stmt, Skip, Var, Assign, Store, Print, Fault, If, IfElse, While, Split, Parts, Call, Async}
use Rattle.syntax_tree.specs.Tree.{Finish, Rescue, Block, End, Then}
use Rattle.syntax.specs.Spelling.{expr_then, more_then, exprs_then, stmt_then, block_then}
use Rattle.syntax.specs.Reading.{binds, list_level, or_level, else_level, IsRead, IsReadClosed, Refuses, RefusesClosed}
use Rattle.syntax.proofs.ChainLemmas.{behind}
use Rattle.syntax.proofs.ExprSpellings.{begins, expr_begins}
use Rattle.syntax.proofs.StmtSpellings.{stmt_begins_with_no_brace, more_bind, kind}
use Rattle.syntax.proofs.RefusalLemmas.{same_rest}

-- an expression, and others after commas
pub record Several (ts r : List Token) : Type 0 where
  pub first : Expr
  pub after : List Token
  pub others : List Expr
  pub spelled : ts ≡ expr_then first after
  pub ends : binds after < or_level
  pub more : after ≡ more_then others r

several_opened : (e : Expr) (es : List Expr) {ts : List Token} (r : List Token) → binds r < list_level
    → ts ≡ expr_then e (more_then es r) → Several ts r
several_opened e es r ends same =
    record { first = e; after = more_then es r; others = es; spelled = same; ends = more_bind es r ends; more = refl }

pub block_closed : (b : Block) (ts r : List Token) → MarkToken RightBrace ∷ ts ≡ block_then b r → ts ≡ r
unfolding block_then
block_closed End ts r same = same_rest same
block_closed (Then s b) ts r same = absurd (stmt_begins_with_no_brace s _ same)

pub block_opened : (b : Block) (ts r : List Token) → ((rest : List Token) → ts ≢ MarkToken RightBrace ∷ rest)
    → ts ≡ block_then b r → (s : Stmt) × (c : Block) × (ts ≡ stmt_then s (block_then c r))
unfolding block_then
block_opened End ts r none same = absurd (none _ same)
block_opened (Then s c) ts r none same = (s, c, same)

-- an `if`, up to where its `else` can come
pub record Conditional (ts r : List Token) : Type 0 where
  pub guard : Expr
  pub body : Block
  pub after : List Token
  pub spelled : ts ≡ expr_then guard (MarkToken LeftBrace ∷ block_then body after)
  pub other : (after ≡ r) ⊎ ((c : Block) × (after ≡ WordToken WordElse ∷ MarkToken LeftBrace ∷ block_then c r))

pub if_opened : (s : Stmt) (ts r : List Token) → WordToken WordIf ∷ ts ≡ stmt_then s r → Conditional ts r
unfolding stmt_then
if_opened (If e b) ts r same = record { guard = e; body = b; after = r; spelled = same_rest same; other = inl refl }
if_opened (IfElse e b c) ts r same = record { guard = e; body = b; after = _; spelled = same_rest same; other = inr (c, refl) }
if_opened _ ts r same = absurd (eqb-false _ _ refl (ap kind same))

pub if_alone : {ts r : List Token} (c : Conditional ts r) (left : List Token)
    → ((rest : List Token) → left ≢ WordToken WordElse ∷ rest) → left ≡ c.after → left ≡ r
if_alone c left none same = elim c.other [ inl e ↦ same ∙ e | inr w ↦ absurd (none _ (same ∙ w.1)) ]

pub if_otherwise : {ts r : List Token} (c : Conditional ts r) (left : List Token) → binds r < else_level
    → WordToken WordElse ∷ left ≡ c.after → (d : Block) × (left ≡ MarkToken LeftBrace ∷ block_then d r)
if_otherwise c left ends same =
    elim c.other [ inl e ↦ absurd (omega (arith, ends, ap binds (same ∙ e))) | inr w ↦ (w.0, same_rest (same ∙ w.1)) ]

pub while_opened : (s : Stmt) (ts r : List Token) → WordToken WordWhile ∷ ts ≡ stmt_then s r
    → (e : Expr) × (b : Block) × (ts ≡ expr_then e (MarkToken LeftBrace ∷ block_then b r))
unfolding stmt_then
while_opened (While e b) ts r same = (e, b, same_rest same)
while_opened _ ts r same = absurd (eqb-false _ _ refl (ap kind same))

-- the parts of a `split` whose first word was read
pub record Splitting (ts r : List Token) : Type 0 where
  pub section : List ℕ
  pub at : Expr
  pub sides : List Token
  pub left : List ℕ
  pub right : List ℕ
  pub body : Block
  pub spelled : ts ≡ NameToken section ∷ WordToken WordAt ∷ expr_then at sides
  pub ends : binds sides < or_level
  pub sided : sides ≡ WordToken WordAs ∷ NameToken left ∷ MarkToken Comma ∷ NameToken right ∷ MarkToken LeftBrace ∷ block_then body r

pub split_opened : (s : Stmt) (ts r : List Token) → WordToken WordSplit ∷ ts ≡ stmt_then s r → Splitting ts r
unfolding stmt_then
split_opened (Split x e y z b) ts r same = record {
  section = x;
  at = e;
  sides = WordToken WordAs ∷ NameToken y ∷ MarkToken Comma ∷ NameToken z ∷ MarkToken LeftBrace ∷ block_then b r;
  left = y;
  right = z;
  body = b;
  spelled = same_rest same;
  ends = omega arith;
  sided = refl;
}
split_opened _ ts r same = absurd (eqb-false _ _ refl (ap kind same))

-- what comes after the first word of a `parts`
pub record Cutting (ts r : List Token) : Type 0 where
  pub section : List ℕ
  pub size : Expr
  pub names : List Token
  pub piece : List ℕ
  pub turn : List ℕ
  pub body : Block
  pub spelled : ts ≡ NameToken section ∷ WordToken WordBy ∷ expr_then size names
  pub ends : binds names < or_level
  pub named : names ≡ WordToken WordAs ∷ NameToken piece ∷ MarkToken Comma ∷ NameToken turn ∷ MarkToken LeftBrace ∷ block_then body r

pub parts_opened : (s : Stmt) (ts r : List Token) → WordToken WordParts ∷ ts ≡ stmt_then s r → Cutting ts r
unfolding stmt_then
parts_opened (Parts x e y z b) ts r same = record {
  section = x;
  size = e;
  names = WordToken WordAs ∷ NameToken y ∷ MarkToken Comma ∷ NameToken z ∷ MarkToken LeftBrace ∷ block_then b r;
  piece = y;
  turn = z;
  body = b;
  spelled = same_rest same;
  ends = omega arith;
  named = refl;
}
parts_opened _ ts r same = absurd (eqb-false _ _ refl (ap kind same))

-- a block with its braces
abbrev pub braced : Block → List Token → List Token
braced b r = MarkToken LeftBrace ∷ block_then b r

-- a block follows this word, if a statement is spelled
abbrev pub OpensBlock : Word → Type 0
OpensBlock word = (s : Stmt) (ts r : List Token) → WordToken word ∷ ts ≡ stmt_then s r → (b : Block) × (ts ≡ braced b r)

pub async_opened : OpensBlock WordAsync
unfolding stmt_then
async_opened (Async b) ts r same = (b, same_rest same)
async_opened _ ts r same = absurd (eqb-false _ _ refl (ap kind same))

-- a `finish`, up to where its `rescue` can come
pub record Finishing (ts r : List Token) : Type 0 where
  pub body : Block
  pub after : List Token
  pub spelled : ts ≡ braced body after
  pub handler : (after ≡ r) ⊎ ((x : List ℕ) × (c : Block) × (after ≡ WordToken WordRescue ∷ NameToken x ∷ braced c r))

pub finish_opened : (s : Stmt) (ts r : List Token) → WordToken WordFinish ∷ ts ≡ stmt_then s r → Finishing ts r
unfolding stmt_then
finish_opened (Finish b) ts r same = record { body = b; after = r; spelled = same_rest same; handler = inl refl }
finish_opened (Rescue b x c) ts r same = record { body = b; after = _; spelled = same_rest same; handler = inr (x, c, refl) }
finish_opened _ ts r same = absurd (eqb-false _ _ refl (ap kind same))

pub finish_alone : {ts r : List Token} (f : Finishing ts r) (left : List Token)
    → ((rest : List Token) → left ≢ WordToken WordRescue ∷ rest) → left ≡ f.after → left ≡ r
finish_alone f left none same = elim f.handler [ inl e ↦ same ∙ e | inr w ↦ absurd (none _ (same ∙ w.2)) ]

pub finish_rescued : {ts r : List Token} (f : Finishing ts r) (left : List Token) → binds r < else_level
    → WordToken WordRescue ∷ left ≡ f.after → (x : List ℕ) × (c : Block) × (left ≡ NameToken x ∷ braced c r)
finish_rescued f left ends same =
    elim f.handler [
      | inl e ↦ absurd (omega (arith, ends, ap binds (same ∙ e)))
      | inr w ↦ (w.0, w.1, same_rest (same ∙ w.2))
    ]

-- a word was read, and a block after it
pub block_read : {tokens after left : List Token} {first word : Word} {b : Block} {s : Stmt}
    → tokens ≡ WordToken first ∷ after → first ≡ word → IsReadClosed braced after b left
    → WordToken word ∷ braced b left ≡ stmt_then s left → OpensBlock word → IsRead stmt_then else_level tokens s left
block_read {after = after} found is read spelled opened =
    let worded = found ∙ ap (λ w. WordToken w ∷ after) is in
    record {
      spelled = worded ∙ behind read.spelled ∙ spelled;
      whole = λ t r ends same. let body = opened t _ r (sym worded ∙ same) in read.whole body.0 r body.1;
    }

-- a word was read, and no block after it
pub block_refused : {tokens after : List Token} {first word : Word} {stuck : Stuck}
    → tokens ≡ WordToken first ∷ after → first ≡ word → RefusesClosed braced after stuck → OpensBlock word
    → Refuses stmt_then else_level tokens stuck
block_refused {after = after} found is refused opened room t r ends same =
    let body = opened t _ r (sym (found ∙ ap (λ w. WordToken w ∷ after) is) ∙ same) in
    refused room body.0 r body.1

pub skip_opened : (s : Stmt) (ts r : List Token) → WordToken WordSkip ∷ ts ≡ stmt_then s r → ts ≡ MarkToken Semicolon ∷ r
unfolding stmt_then
skip_opened Skip ts r same = same_rest same
skip_opened _ ts r same = absurd (eqb-false _ _ refl (ap kind same))

pub var_opened : (s : Stmt) (ts r : List Token) → WordToken WordVar ∷ ts ≡ stmt_then s r
    → (x : List ℕ) × (e : Expr) × (ts ≡ NameToken x ∷ MarkToken Becomes ∷ expr_then e (MarkToken Semicolon ∷ r))
unfolding stmt_then
var_opened (Var x e) ts r same = (x, e, same_rest same)
var_opened _ ts r same = absurd (eqb-false _ _ refl (ap kind same))

pub print_opened : (s : Stmt) (ts r : List Token) → WordToken WordPrint ∷ ts ≡ stmt_then s r → Several ts (MarkToken Semicolon ∷ r)
unfolding stmt_then
print_opened (Print e es) ts r same = several_opened e es _ (omega arith) (same_rest same)
print_opened _ ts r same = absurd (eqb-false _ _ refl (ap kind same))

pub fault_opened : (s : Stmt) (ts r : List Token) → WordToken WordFault ∷ ts ≡ stmt_then s r
    → (e : Expr) × (ts ≡ expr_then e (MarkToken Semicolon ∷ r))
unfolding stmt_then
fault_opened (Fault e) ts r same = (e, same_rest same)
fault_opened _ ts r same = absurd (eqb-false _ _ refl (ap kind same))

-- the parts of a store whose section and first bracket were read
pub record Storing (ts r : List Token) : Type 0 where
  pub index : Expr
  pub value : Expr
  pub after : List Token
  pub spelled : ts ≡ expr_then index after
  pub ends : binds after < or_level
  pub closed : after ≡ MarkToken RightBracket ∷ MarkToken Becomes ∷ expr_then value (MarkToken Semicolon ∷ r)

pub store_opened : (s : Stmt) (x : List ℕ) (ts r : List Token) → NameToken x ∷ MarkToken LeftBracket ∷ ts ≡ stmt_then s r
    → Storing ts r
unfolding stmt_then
store_opened (Store y i e) x ts r same = record {
  index = i;
  value = e;
  after = MarkToken RightBracket ∷ MarkToken Becomes ∷ expr_then e (MarkToken Semicolon ∷ r);
  spelled = same_rest (same_rest same);
  ends = omega arith;
  closed = refl;
}
store_opened _ x ts r same = absurd (eqb-false _ _ refl (ap kind same))

pub call_opened : (s : Stmt) (x : List ℕ) (ts r : List Token) → NameToken x ∷ MarkToken LeftParen ∷ ts ≡ stmt_then s r
    → (es : List Expr) × (ts ≡ exprs_then es (MarkToken RightParen ∷ MarkToken Semicolon ∷ r))
unfolding stmt_then
call_opened (Call f es) x ts r same = (es, same_rest (same_rest same))
call_opened _ x ts r same = absurd (eqb-false _ _ refl (ap kind same))

pub assign_opened : (s : Stmt) (x : List ℕ) (ts r : List Token)
    → ((rest : List Token) → ts ≢ MarkToken LeftBracket ∷ rest)
    → ((rest : List Token) → ts ≢ MarkToken LeftParen ∷ rest) → NameToken x ∷ ts ≡ stmt_then s r
    → (e : Expr) × (ts ≡ MarkToken Becomes ∷ expr_then e (MarkToken Semicolon ∷ r))
unfolding stmt_then
assign_opened (Assign y e) x ts r bracket paren same = (e, same_rest same)
assign_opened (Store y i e) x ts r bracket paren same = absurd (bracket _ (same_rest same))
assign_opened (Call f es) x ts r bracket paren same = absurd (paren _ (same_rest same))
assign_opened _ x ts r bracket paren same = cc

-- if neither a word nor a name comes first
pub no_statement : (ts : List Token) → ((w : Word) (rest : List Token) → ts ≢ WordToken w ∷ rest)
    → ((x : List ℕ) (rest : List Token) → ts ≢ NameToken x ∷ rest) → (s : Stmt) (r : List Token) → ts ≢ stmt_then s r
unfolding stmt_then
no_statement ts word name Skip r same = word _ _ same
no_statement ts word name (Var x e) r same = word _ _ same
no_statement ts word name (Assign x e) r same = name _ _ same
no_statement ts word name (Store x i e) r same = name _ _ same
no_statement ts word name (Print e es) r same = word _ _ same
no_statement ts word name (Fault e) r same = word _ _ same
no_statement ts word name (If e b) r same = word _ _ same
no_statement ts word name (IfElse e b c) r same = word _ _ same
no_statement ts word name (While e b) r same = word _ _ same
no_statement ts word name (Split x e y z b) r same = word _ _ same
no_statement ts word name (Parts x e y z b) r same = word _ _ same
no_statement ts word name (Call f es) r same = name _ _ same
no_statement ts word name (Async b) r same = word _ _ same
no_statement ts word name (Finish b) r same = word _ _ same
no_statement ts word name (Rescue b x c) r same = word _ _ same

-- a word comes first that no statement starts with
pub record BeginsNoStatement (ts : List Token) : Type 0 where
  pub word : Word
  pub rest : List Token
  pub first : ts ≡ WordToken word ∷ rest
  pub is_if : word ≢ WordIf
  pub is_while : word ≢ WordWhile
  pub is_split : word ≢ WordSplit
  pub is_parts : word ≢ WordParts
  pub is_async : word ≢ WordAsync
  pub is_finish : word ≢ WordFinish
  pub skip : (k : List Token) → ts ≢ WordToken WordSkip ∷ k
  pub var : (k : List Token) → ts ≢ WordToken WordVar ∷ k
  pub print : (k : List Token) → ts ≢ WordToken WordPrint ∷ k
  pub fault : (k : List Token) → ts ≢ WordToken WordFault ∷ k

pub no_simple : (ts : List Token) → BeginsNoStatement ts → (s : Stmt) (r : List Token) → ts ≢ stmt_then s r
unfolding stmt_then
no_simple ts none Skip r same = none.skip _ same
no_simple ts none (Var x e) r same = none.var _ same
no_simple ts none (Print e es) r same = none.print _ same
no_simple ts none (Fault e) r same = none.fault _ same
no_simple ts none (If e b) r same = none.is_if (cc (none.first))
no_simple ts none (IfElse e b c) r same = none.is_if (cc (none.first))
no_simple ts none (While e b) r same = none.is_while (cc (none.first))
no_simple ts none (Split x e y z b) r same = none.is_split (cc (none.first))
no_simple ts none (Parts x e y z b) r same = none.is_parts (cc (none.first))
no_simple ts none (Async b) r same = none.is_async (cc (none.first))
no_simple ts none (Finish b) r same = none.is_finish (cc (none.first))
no_simple ts none (Rescue b x c) r same = none.is_finish (cc (none.first))
no_simple ts none _ r same = cc (none.first)

pub exprs_closed : (es : List Expr) (ts r : List Token) → MarkToken RightParen ∷ ts ≡ exprs_then es (MarkToken RightParen ∷ r) → ts ≡ r
unfolding exprs_then
exprs_closed [] ts r same = same_rest same
exprs_closed (e ∷ es) ts r same = absurd (omega (arith, ap begins same, expr_begins e (more_then es (MarkToken RightParen ∷ r))))

pub exprs_opened : (es : List Expr) (ts r : List Token) → ((rest : List Token) → ts ≢ MarkToken RightParen ∷ rest)
    → ts ≡ exprs_then es (MarkToken RightParen ∷ r) → Several ts (MarkToken RightParen ∷ r)
unfolding exprs_then
exprs_opened [] ts r none same = absurd (none _ same)
exprs_opened (e ∷ fs) ts r none same = several_opened e fs _ (omega arith) same
