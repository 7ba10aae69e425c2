-- The text of lines.
use Rattle.std.proofs.Common.{◌≡◌, ℕ, replicate, ◌+◌, ◌-◌, Bool, true, false, if◌then◌else◌, List, [], ◌∷◌}
use Rattle.std.proofs.Common.{◌++◌, map, codes, Option, Some, None, String, Global, length, unwrap_or, length-append}
use Rattle.std.proofs.Common.{arith, refl, ap, sym, ◌∙◌, append_assoc, append-nil}
use Rattle.std.specs.Fmt.{char_count, decimal, format_spec, styled_decimal, padded_integral}
use Rattle.std.specs.List.{repeat}
use Rattle.std.specs.Option.{option_map}
use Rattle.std.specs.String.{string_bytes}
use Rattle.shared_lemmas.proofs.Lists.{spaces}
use Rattle.syntax.specs.declared.canonical.Lines.{Lines}
use Rattle.syntax_tree.specs.declared.tree.ElementType.{ElementType}
use Rattle.syntax_tree.specs.declared.tree.ElementType.TheVariants.{Int as IntElement, Byte as ByteElement}
use Rattle.syntax_tree.specs.declared.tree.Parameter.{Parameter as rParameter}
use Rattle.syntax.specs.declared.token.Word.TheVariants.{Array as WordArray, As as WordAs, At as WordAt, By as WordBy, Parts as WordParts}
use Rattle.syntax.specs.declared.token.Word.TheVariants.{Else as WordElse, Main as WordMain, Print as WordPrint, Proc as WordProc}
use Rattle.syntax.specs.declared.token.Word.TheVariants.{Rescue as WordRescue, Split as WordSplit}
use Rattle.syntax.specs.declared.token.Mark.TheVariants.{LeftParen, RightParen, LeftBrace, RightBrace, LeftBracket}
use Rattle.syntax.specs.declared.token.Mark.TheVariants.{RightBracket, Comma, Semicolon, Colon, Becomes}
use Rattle.syntax.specs.Canonical.{Place, laid, in_line, indent}
use Rattle.syntax.specs.declared.token.Left.{Left}
use Rattle.syntax.specs.declared.token.Left.TheVariants.{Margin, Opening, Operand, Ended, Other}
use Rattle.syntax.specs.Canonical.{plain_margin, statement_margin, label_text}
use Rattle.syntax.specs.Lexical.{word_text}
use Rattle.syntax.specs.Spelling.{expr_then, more_then, exprs_then, stmt_then, block_then, arrays_then, parameter_then}
use Rattle.syntax.specs.Spelling.{parameters_then, more_parameters_then, procedures_then, main_tokens, element_word}
use Rattle.syntax.specs.Token.{Token, NameToken, NumberToken, WordToken, MarkToken}
use Rattle.syntax_tree.specs.Tree.{Expr, Stmt, Skip, Var, Assign, Store, Print, Fault, If, IfElse, While, Split, Parts, Call, Async}
use Rattle.syntax_tree.specs.Tree.{Finish, Rescue, Block, End, Then, Array, Parameter, Written, Read, Scalar, Procedure, Main}
use Rattle.syntax_tree.specs.Tree.{parameter}
use Rattle.syntax.specs.Writing.{place, with_rest, Adds, IsCounted}
use Rattle.syntax.proofs.LaidLemmas.{at_left, line, Follows, append_joined, append_apart, append_under, before_nil}
use Rattle.syntax.proofs.LaidLemmas.{end_follows, expr_apart, expr_laid, more_behind, more_follow, more_laid}

-- text that the formatted text starts with is written
pub wrote : (old new : Lines) (from to : Left) (ts us : List Token) (t : List ℕ) (d : ℕ) (n : Option ℕ) → string_bytes new.text
    ≡ string_bytes old.text ++ t → new.depth ≡ d → new.label ≡ n → laid (place old from) ts
    ≡ t ++ laid (record { depth = d; label = n; left = to }) us → with_rest old from ts ≡ with_rest new to us
wrote old new from to ts us t d n text depth label e =
    ap (λ l. string_bytes old.text ++ l) e
    ∙ sym (append_assoc (string_bytes old.text) t (laid (record { depth = d; label = n; left = to }) us))
    ∙ ap (λ l. l ++ laid (record { depth = d; label = n; left = to }) us) (sym text)
    ∙ ap (λ x. string_bytes new.text ++ laid (record { depth = x; label = n; left = to }) us) (sym depth)
    ∙ ap (λ x. string_bytes new.text ++ laid (record { depth = new.depth; label = x; left = to }) us) (sym label)

pub wrote_adds : (old new : Lines) (from to : Left) (ts us : List Token) (t : List ℕ) → Adds old new t → laid (place old from) ts
    ≡ t ++ laid (place old to) us → with_rest old from ts ≡ with_rest new to us
wrote_adds old new from to ts us t adds e = wrote old new from to ts us t old.depth old.label adds.text adds.depth adds.label e

pub wrote_text : (old : Lines) (now : String Global) (from to : Left) (ts us : List Token) (t : List ℕ) → string_bytes now
    ≡ string_bytes old.text ++ t → laid (place old from) ts ≡ t ++ laid (place old to) us → with_rest old from ts
    ≡ with_rest (record old { text = now }) to us
wrote_text old now from to ts us t text e = wrote old (record old { text = now }) from to ts us t old.depth old.label text refl refl e

-- a count stays correct while text is added
pub counted_by : (old new : Lines) (t : List ℕ) → string_bytes new.text ≡ string_bytes old.text ++ t → new.depth ≡ old.depth → new.label
    ≡ old.label → IsCounted old → IsCounted new
counted_by old new t text depth label counted =
    let longer = ap length text ∙ length-append (string_bytes old.text) t in
    record {
      blocks = omega (arith, counted.blocks, longer, depth);
      statements = omega (arith, counted.statements, longer, ap (λ l. unwrap_or l 0) label);
    }

-- a statement without a block, up to its semicolon
pub wrote_simple : (old new : Lines) (s : Stmt) (t : List ℕ)
    → ((at : Place) (r : List Token) → laid (at_left at Opening) (stmt_then s r)
    ≡ t ++ laid (at_left at Operand) (MarkToken Semicolon ∷ r)) → string_bytes new.text ≡ string_bytes old.text ++ t → new.depth
    ≡ old.depth → new.label ≡ old.label → (r : List Token) → with_rest old Opening (stmt_then s r)
    ≡ with_rest new Operand (MarkToken Semicolon ∷ r)
wrote_simple old new s t e text depth label r = wrote old new Opening Operand (stmt_then s r)
    (MarkToken Semicolon ∷ r) t old.depth old.label text depth label (e (place old Opening) r)

-- a statement starts its line
pub stmt_begins : (d : ℕ) (n : Option ℕ) (s : Stmt) (r : List Token) → laid (record { depth = d; label = n; left = Margin }) (stmt_then s r)
    ≡ (statement_margin n ++ indent d) ++ laid (record { depth = d; label = option_map (λ k. k + 1) n; left = Opening }) (stmt_then s r)
unfolding laid stmt_then
stmt_begins d n Skip r = refl
stmt_begins d n (Var x e) r = refl
stmt_begins d n (Assign x e) r = refl
stmt_begins d n (Store s i e) r = refl
stmt_begins d n (Print e es) r = refl
stmt_begins d n (Fault e) r = refl
stmt_begins d n (If e b) r = refl
stmt_begins d n (IfElse e b c) r = refl
stmt_begins d n (While e b) r = refl
stmt_begins d n (Split s e x y b) r = refl
stmt_begins d n (Parts s e x i b) r = refl
stmt_begins d n (Call f es) r = refl
stmt_begins d n (Async b) r = refl
stmt_begins d n (Finish b) r = refl
stmt_begins d n (Rescue b x c) r = refl

-- what follows the end of a line starts a line
abbrev pub BeginsLine : List Token → Type 0
BeginsLine ts = (d : ℕ) (n : Option ℕ) → laid (record { depth = d; label = n; left = Ended }) ts
    ≡ 10 ∷ laid (record { depth = d; label = n; left = Margin }) ts

stmt_is_line : (s : Stmt) (r : List Token) → BeginsLine (stmt_then s r)
unfolding laid stmt_then
stmt_is_line Skip r d n = refl
stmt_is_line (Var x e) r d n = refl
stmt_is_line (Assign x e) r d n = refl
stmt_is_line (Store s i e) r d n = refl
stmt_is_line (Print e es) r d n = refl
stmt_is_line (Fault e) r d n = refl
stmt_is_line (If e b) r d n = refl
stmt_is_line (IfElse e b c) r d n = refl
stmt_is_line (While e b) r d n = refl
stmt_is_line (Split s e x y b) r d n = refl
stmt_is_line (Parts s e x i b) r d n = refl
stmt_is_line (Call f es) r d n = refl
stmt_is_line (Async b) r d n = refl
stmt_is_line (Finish b) r d n = refl
stmt_is_line (Rescue b x c) r d n = refl

pub block_is_line : (b : Block) (r : List Token) → BeginsLine (block_then b r)
unfolding laid block_then
block_is_line End r d n = refl
block_is_line (Then s b) r d n = stmt_is_line s (block_then b r) d n

pub arrays_are_lines : (xs : List Array) (b : Block) (r : List Token) → BeginsLine (arrays_then xs (block_then b r))
unfolding laid arrays_then
arrays_are_lines [] b r d n = block_is_line b r d n
arrays_are_lines (a ∷ xs) b r d n = refl

pub procedures_are_lines : (ps : List Procedure) (m : Option Main) → BeginsLine (procedures_then ps (main_tokens m))
unfolding laid procedures_then main_tokens
procedures_are_lines [] None d n = refl
procedures_are_lines [] (Some m) d n = refl
procedures_are_lines (p ∷ ps) m d n = refl

-- braces

pub laid-opening_brace : (d : ℕ) (n : Option ℕ) (ts : List Token) → BeginsLine ts
    → laid (record { depth = d; label = n; left = Other }) (MarkToken LeftBrace ∷ ts)
    ≡ codes " {\n" ++ laid (record { depth = d + 1; label = n; left = Margin }) ts
unfolding laid
laid-opening_brace d n ts begins = ap (λ l. 32 ∷ 123 ∷ l) (begins (d + 1) n)

pub laid-closing_brace : (d : ℕ) (n : Option ℕ) (r : List Token) → laid (record { depth = d; label = n; left = Margin }) (MarkToken RightBrace ∷ r)
    ≡ ((plain_margin n ++ indent (d - 1)) ++ codes "}") ++ laid (record { depth = d - 1; label = n; left = Ended }) r
unfolding laid
laid-closing_brace d n r = sym (append_assoc (plain_margin n ++ indent (d - 1)) (codes "}") (laid
    (record { depth = d - 1; label = n; left = Ended }) r))

-- headers

pub header_laid : (at : Place) (e : Expr) (ts : List Token) → laid (at_left at Other) (expr_then e (MarkToken LeftBrace ∷ ts))
    ≡ 32 ∷ (in_line (expr_then e []) ++ laid (at_left at Other) (MarkToken LeftBrace ∷ ts))
unfolding laid
header_laid at e ts = expr_apart at e (MarkToken LeftBrace ∷ ts) ∙ ap (λ l. 32 ∷ l) (expr_laid at e (MarkToken LeftBrace ∷ ts) refl)

pub laid_If : (at : Place) (e : Expr) (b : Block) (r : List Token) → laid (at_left at Opening) (stmt_then (If e b) r)
    ≡ (codes "if " ++ in_line (expr_then e [])) ++ laid (at_left at Other) (MarkToken LeftBrace ∷ block_then b r)
unfolding laid stmt_then
laid_If at e b r = ap (λ l. 105 ∷ 102 ∷ l) (header_laid at e (block_then b r))

pub laid_IfElse : (at : Place) (e : Expr) (b c : Block) (r : List Token) → laid (at_left at Opening) (stmt_then (IfElse e b c) r)
    ≡ (codes "if " ++ in_line (expr_then e [])) ++ laid (at_left at Other) (MarkToken LeftBrace ∷ block_then b
    (WordToken WordElse ∷ MarkToken LeftBrace ∷ block_then c r))
unfolding laid stmt_then
laid_IfElse at e b c r = ap (λ l. 105 ∷ 102 ∷ l) (header_laid at e (block_then b
    (WordToken WordElse ∷ MarkToken LeftBrace ∷ block_then c r)))

pub laid_Else : (at : Place) (ts : List Token) → laid (at_left at Ended) (WordToken WordElse ∷ MarkToken LeftBrace ∷ ts)
    ≡ codes " else" ++ laid (at_left at Other) (MarkToken LeftBrace ∷ ts)
unfolding laid
laid_Else at ts = refl

pub laid_While : (at : Place) (e : Expr) (b : Block) (r : List Token) → laid (at_left at Opening) (stmt_then (While e b) r)
    ≡ (codes "while " ++ in_line (expr_then e [])) ++ laid (at_left at Other) (MarkToken LeftBrace ∷ block_then b r)
unfolding laid stmt_then
laid_While at e b r = ap (λ l. 119 ∷ 104 ∷ 105 ∷ 108 ∷ 101 ∷ l) (header_laid at e (block_then b r))

pub laid_Async : (at : Place) (b : Block) (r : List Token) → laid (at_left at Opening) (stmt_then (Async b) r)
    ≡ codes "async" ++ laid (at_left at Other) (MarkToken LeftBrace ∷ block_then b r)
unfolding laid stmt_then
laid_Async at b r = refl

pub laid_Finish : (at : Place) (b : Block) (r : List Token) → laid (at_left at Opening) (stmt_then (Finish b) r)
    ≡ codes "finish" ++ laid (at_left at Other) (MarkToken LeftBrace ∷ block_then b r)
unfolding laid stmt_then
laid_Finish at b r = refl

pub laid_Rescue : (at : Place) (b : Block) (x : List ℕ) (c : Block) (r : List Token)
    → laid (at_left at Opening) (stmt_then (Rescue b x c) r)
    ≡ codes "finish" ++ laid (at_left at Other) (MarkToken LeftBrace ∷ block_then b
    (WordToken WordRescue ∷ NameToken x ∷ MarkToken LeftBrace ∷ block_then c r))
unfolding laid stmt_then
laid_Rescue at b x c r = refl

pub laid_handler : (at : Place) (x : List ℕ) (ts : List Token)
    → laid (at_left at Ended) (WordToken WordRescue ∷ NameToken x ∷ MarkToken LeftBrace ∷ ts)
    ≡ (codes " rescue " ++ x) ++ laid (at_left at Other) (MarkToken LeftBrace ∷ ts)
unfolding laid
laid_handler at x ts = refl

-- an expression and what follows it, after a word
pub expr_behind : (at : Place) (e : Expr) (r q : List Token) (z : List ℕ) → Follows at r → Follows line q → laid (at_left at Operand) r
    ≡ laid (at_left line Operand) q ++ z → laid (at_left at Other) (expr_then e r) ≡ laid (at_left line Other) (expr_then e q) ++ z
expr_behind at e r q z f g tail =
    expr_apart at e r ∙ ap (λ l. 32 ∷ l) (append_joined _ _ _ _ _ _ (expr_laid at e r f) (expr_laid line e q g) tail)
    ∙ ap (λ l. l ++ z) (sym (expr_apart line e q))

-- `split s at e as x, y`
abbrev pub split_then : List ℕ → Expr → List ℕ → List ℕ → List Token → List Token
split_then s e x y r = WordToken WordSplit ∷ NameToken s ∷ WordToken WordAt ∷ expr_then e
    (WordToken WordAs ∷ NameToken x ∷ MarkToken Comma ∷ NameToken y ∷ r)

pub laid_Split : (at : Place) (s : List ℕ) (e : Expr) (x y : List ℕ) (b : Block) (r : List Token)
    → laid (at_left at Opening) (stmt_then (Split s e x y b) r)
    ≡ in_line (split_then s e x y []) ++ laid (at_left at Other) (MarkToken LeftBrace ∷ block_then b r)
unfolding laid stmt_then
laid_Split at s e x y b r =
    let sides = ap (λ l. 32 ∷ 97 ∷ 115 ∷ 32 ∷ l) (append_under x _ _ _ (ap (λ l. 44 ∷ 32 ∷ l) (before_nil y (laid (at_left at Other)
    (MarkToken LeftBrace ∷ block_then b r))))) in
    ap (λ l. 115 ∷ 112 ∷ 108 ∷ 105 ∷ 116 ∷ 32 ∷ l) (append_under s _ _ _ (ap (λ l. 32 ∷ 97 ∷ 116 ∷ l) (expr_behind at e _ _ _ refl refl sides)))

pub split_text : (s : List ℕ) (e : Expr) (x y : List ℕ) → in_line (split_then s e x y [])
    ≡ codes "split " ++ (s ++ (codes " at " ++ (in_line (expr_then e []) ++ (codes " as " ++ (x ++ (codes ", " ++ y))))))
unfolding laid
split_text s e x y =
    let sides = WordToken WordAs ∷ NameToken x ∷ MarkToken Comma ∷ NameToken y ∷ [] in
    ap (λ l. 115 ∷ 112 ∷ 108 ∷ 105 ∷ 116 ∷ 32 ∷ (s ++ (32 ∷ 97 ∷ 116 ∷ l)))
    (expr_apart line e sides ∙ ap (λ l. 32 ∷ l) (expr_laid line e sides refl
    ∙ ap (λ l. in_line (expr_then e []) ++ (32 ∷ 97 ∷ 115 ∷ 32 ∷ (x ++ (44 ∷ 32 ∷ l)))) (append-nil y)))

-- `parts s by e as x, y`
abbrev pub parts_then : List ℕ → Expr → List ℕ → List ℕ → List Token → List Token
parts_then s e x y r = WordToken WordParts ∷ NameToken s ∷ WordToken WordBy ∷ expr_then e
    (WordToken WordAs ∷ NameToken x ∷ MarkToken Comma ∷ NameToken y ∷ r)

pub laid_Parts : (at : Place) (s : List ℕ) (e : Expr) (x y : List ℕ) (b : Block) (r : List Token)
    → laid (at_left at Opening) (stmt_then (Parts s e x y b) r)
    ≡ in_line (parts_then s e x y []) ++ laid (at_left at Other) (MarkToken LeftBrace ∷ block_then b r)
unfolding laid stmt_then
laid_Parts at s e x y b r =
    let names = ap (λ l. 32 ∷ 97 ∷ 115 ∷ 32 ∷ l) (append_under x _ _ _ (ap (λ l. 44 ∷ 32 ∷ l) (before_nil y (laid (at_left at Other)
    (MarkToken LeftBrace ∷ block_then b r))))) in
    ap (λ l. 112 ∷ 97 ∷ 114 ∷ 116 ∷ 115 ∷ 32 ∷ l) (append_under s _ _ _ (ap (λ l. 32 ∷ 98 ∷ 121 ∷ l) (expr_behind at e _ _ _ refl refl names)))

pub parts_text : (s : List ℕ) (e : Expr) (x y : List ℕ) → in_line (parts_then s e x y [])
    ≡ codes "parts " ++ (s ++ (codes " by " ++ (in_line (expr_then e []) ++ (codes " as " ++ (x ++ (codes ", " ++ y))))))
unfolding laid
parts_text s e x y =
    let names = WordToken WordAs ∷ NameToken x ∷ MarkToken Comma ∷ NameToken y ∷ [] in
    ap (λ l. 112 ∷ 97 ∷ 114 ∷ 116 ∷ 115 ∷ 32 ∷ (s ++ (32 ∷ 98 ∷ 121 ∷ l)))
    (expr_apart line e names ∙ ap (λ l. 32 ∷ l) (expr_laid line e names refl
    ∙ ap (λ l. in_line (expr_then e []) ++ (32 ∷ 97 ∷ 115 ∷ 32 ∷ (x ++ (44 ∷ 32 ∷ l)))) (append-nil y)))

-- statements without a block

-- `x = e`
abbrev pub assignment_then : List ℕ → Expr → List Token → List Token
assignment_then x e r = NameToken x ∷ MarkToken Becomes ∷ expr_then e r

pub assignment_text : (x : List ℕ) (e : Expr) → in_line (assignment_then x e []) ≡ x ++ (codes " = " ++ in_line (expr_then e []))
unfolding laid
assignment_text x e = ap (λ l. x ++ (32 ∷ 61 ∷ l)) (expr_apart line e [])

-- what the semicolon follows
abbrev pub up_to_end : Place → List Token → List ℕ
up_to_end at r = laid (at_left at Operand) (MarkToken Semicolon ∷ r)

pub laid_Skip : (at : Place) (r : List Token) → laid (at_left at Opening) (stmt_then Skip r) ≡ codes "skip" ++ up_to_end at r
unfolding laid stmt_then
laid_Skip at r = refl

pub laid_Assign : (at : Place) (x : List ℕ) (e : Expr) (r : List Token) → laid (at_left at Opening) (stmt_then (Assign x e) r)
    ≡ in_line (assignment_then x e []) ++ up_to_end at r
unfolding laid stmt_then
laid_Assign at x e r = append_under x _ _ _ (ap (λ l. 32 ∷ 61 ∷ l) (expr_behind at e (MarkToken Semicolon ∷ r) [] (up_to_end at r) refl refl refl))

pub laid_Var : (at : Place) (x : List ℕ) (e : Expr) (r : List Token) → laid (at_left at Opening) (stmt_then (Var x e) r)
    ≡ (codes "var " ++ in_line (assignment_then x e [])) ++ up_to_end at r
unfolding laid stmt_then
laid_Var at x e r = ap (λ l. 118 ∷ 97 ∷ 114 ∷ 32 ∷ l) (laid_Assign at x e r)

-- `s[i] = e`
abbrev pub store_then : List ℕ → Expr → Expr → List Token → List Token
store_then s i e r = NameToken s ∷ MarkToken LeftBracket ∷ expr_then i (MarkToken RightBracket ∷ MarkToken Becomes ∷ expr_then e r)

pub store_text : (s : List ℕ) (i e : Expr) → in_line (store_then s i e [])
    ≡ s ++ (codes "[" ++ (in_line (expr_then i []) ++ (codes "] = " ++ in_line (expr_then e []))))
unfolding laid
store_text s i e =
    ap (λ l. s ++ (91 ∷ l)) (expr_laid line i (MarkToken RightBracket ∷ MarkToken Becomes ∷ expr_then e []) refl
    ∙ ap (λ l. in_line (expr_then i []) ++ (93 ∷ 32 ∷ 61 ∷ l)) (expr_apart line e []))

pub laid_Store : (at : Place) (s : List ℕ) (i e : Expr) (r : List Token) → laid (at_left at Opening) (stmt_then (Store s i e) r)
    ≡ in_line (store_then s i e []) ++ up_to_end at r
unfolding laid stmt_then
laid_Store at s i e r =
    let value = expr_behind at e (MarkToken Semicolon ∷ r) [] (up_to_end at r) refl refl refl in
    append_under s _ _ _ (ap (λ l. 91 ∷ l) (append_joined _ _ _ _ _ _ (expr_laid at i (MarkToken RightBracket ∷ MarkToken Becomes ∷ expr_then e
    (MarkToken Semicolon ∷ r)) refl) (expr_laid line i (MarkToken RightBracket ∷ MarkToken Becomes ∷ expr_then e []) refl)
    (ap (λ l. 93 ∷ 32 ∷ 61 ∷ l) value)))

-- `print e, ..`
abbrev pub print_then : Expr → List Expr → List Token → List Token
print_then e es r = WordToken WordPrint ∷ expr_then e (more_then es r)

pub print_text : (e : Expr) (es : List Expr) → in_line (print_then e es [])
    ≡ codes "print " ++ (in_line (expr_then e []) ++ in_line (more_then es []))
unfolding laid
print_text e es =
    ap (λ l. 112 ∷ 114 ∷ 105 ∷ 110 ∷ 116 ∷ l) (expr_apart line e (more_then es []) ∙ ap (λ l. 32 ∷ l) (more_behind e es))

pub laid_Print : (at : Place) (e : Expr) (es : List Expr) (r : List Token) → laid (at_left at Opening) (stmt_then (Print e es) r)
    ≡ in_line (print_then e es []) ++ up_to_end at r
unfolding laid stmt_then
laid_Print at e es r =
    ap (λ l. 112 ∷ 114 ∷ 105 ∷ 110 ∷ 116 ∷ l) (expr_behind at e (more_then es (MarkToken Semicolon ∷ r)) (more_then es [])
    (up_to_end at r) (more_follow at es (MarkToken Semicolon ∷ r) refl) (more_follow line es [] (end_follows line)) (more_laid at es
    (MarkToken Semicolon ∷ r) refl))

pub laid_Fault : (at : Place) (e : Expr) (r : List Token) → laid (at_left at Opening) (stmt_then (Fault e) r)
    ≡ (codes "fault " ++ in_line (expr_then e [])) ++ up_to_end at r
unfolding laid stmt_then
laid_Fault at e r =
    ap (λ l. 102 ∷ 97 ∷ 117 ∷ 108 ∷ 116 ∷ l) (expr_apart at e (MarkToken Semicolon ∷ r)
    ∙ ap (λ l. 32 ∷ l) (expr_laid at e (MarkToken Semicolon ∷ r) refl))

exprs_laid : (at : Place) (es : List Expr) (r : List Token) → laid (at_left at Opening) (exprs_then es (MarkToken RightParen ∷ r))
    ≡ in_line (exprs_then es []) ++ (41 ∷ laid (at_left at Operand) r)
unfolding laid exprs_then
exprs_laid at [] r = refl
exprs_laid at (e ∷ es) r =
    append_joined _ _ _ _ _ _ (expr_laid at e (more_then es (MarkToken RightParen ∷ r)) (more_follow at es (MarkToken RightParen ∷ r) refl))
    (expr_laid line e (more_then es []) (more_follow line es [] (end_follows line))) (more_laid at es (MarkToken RightParen ∷ r) refl)

pub laid_Call : (at : Place) (f : List ℕ) (es : List Expr) (r : List Token) → laid (at_left at Opening) (stmt_then (Call f es) r)
    ≡ (f ++ (codes "(" ++ (in_line (exprs_then es []) ++ codes ")"))) ++ up_to_end at r
unfolding laid stmt_then
laid_Call at f es r = append_under f _ _ _ (ap (λ l. 40 ∷ l) (exprs_laid at es (MarkToken Semicolon ∷ r)
    ∙ append_under (in_line (exprs_then es [])) _ (codes ")") _ refl))

pub laid_end : (at : Place) (r : List Token) → laid (at_left at Operand) (MarkToken Semicolon ∷ r) ≡ codes ";" ++ laid (at_left at Ended) r
unfolding laid
laid_end at r = refl

-- parameters

parameter_apart : (at : Place) (p : Parameter) (r : List Token) → laid (at_left at Other) (parameter_then p r)
    ≡ 32 ∷ laid (at_left at Opening) (parameter_then p r)
unfolding laid parameter_then
parameter_apart at (Written x e) r = refl
parameter_apart at (Read x e) r = refl
parameter_apart at (Scalar x) r = refl

pub parameter_text_Written : (x : List ℕ) (e : ElementType) → in_line (parameter_then (Written x e) [])
    ≡ codes "mut " ++ (x ++ (codes ": " ++ word_text (element_word e)))
unfolding laid parameter_then
parameter_text_Written x IntElement = refl
parameter_text_Written x ByteElement = refl

pub parameter_text_Read : (x : List ℕ) (e : ElementType) → in_line (parameter_then (Read x e) [])
    ≡ codes "read " ++ (x ++ (codes ": " ++ word_text (element_word e)))
unfolding laid parameter_then
parameter_text_Read x IntElement = refl
parameter_text_Read x ByteElement = refl

pub parameter_text_Scalar : (x : List ℕ) → in_line (parameter_then (Scalar x) []) ≡ x ++ codes ": int"
unfolding laid parameter_then
parameter_text_Scalar x = refl

parameter_laid : (at : Place) (p : Parameter) (r : List Token) → Follows at r → laid (at_left at Opening) (parameter_then p r)
    ≡ in_line (parameter_then p []) ++ laid (at_left at Operand) r
unfolding laid parameter_then
parameter_laid at (Written x IntElement) r f = ap (λ l. 109 ∷ 117 ∷ 116 ∷ 32 ∷ l) (append_under x _ _ _ (ap
    (λ l. 58 ∷ 32 ∷ 105 ∷ 110 ∷ 116 ∷ l) f))
parameter_laid at (Written x ByteElement) r f = ap (λ l. 109 ∷ 117 ∷ 116 ∷ 32 ∷ l) (append_under x _ _ _ (ap
    (λ l. 58 ∷ 32 ∷ 98 ∷ 121 ∷ 116 ∷ 101 ∷ l) f))
parameter_laid at (Read x IntElement) r f = ap (λ l. 114 ∷ 101 ∷ 97 ∷ 100 ∷ 32 ∷ l) (append_under x _ _ _ (ap
    (λ l. 58 ∷ 32 ∷ 105 ∷ 110 ∷ 116 ∷ l) f))
parameter_laid at (Read x ByteElement) r f = ap (λ l. 114 ∷ 101 ∷ 97 ∷ 100 ∷ 32 ∷ l) (append_under x _ _ _ (ap
    (λ l. 58 ∷ 32 ∷ 98 ∷ 121 ∷ 116 ∷ 101 ∷ l) f))
parameter_laid at (Scalar x) r f = append_under x _ _ _ (ap (λ l. 58 ∷ 32 ∷ 105 ∷ 110 ∷ 116 ∷ l) f)

parameters_follow : (at : Place) (ps : List Parameter) (r : List Token) → Follows at r → Follows at (more_parameters_then ps r)
unfolding laid more_parameters_then
parameters_follow at [] r f = f
parameters_follow at (p ∷ ps) r f = refl

more_parameters_laid : (at : Place) (ps : List Parameter) (r : List Token) → Follows at r
    → laid (at_left at Operand) (more_parameters_then ps r)
    ≡ laid (at_left line Operand) (more_parameters_then ps []) ++ laid (at_left at Operand) r
unfolding laid more_parameters_then
more_parameters_laid at [] r f = refl
more_parameters_laid at (p ∷ ps) r f =
    let rest = more_parameters_then ps r in let none = more_parameters_then ps [] in
    append_apart (44 ∷ []) _ _ _ (parameter_apart at p rest) (parameter_apart line p none)
    (parameter_laid at p rest (parameters_follow at ps r f)) (parameter_laid line p none
    (parameters_follow line ps [] (end_follows line))) (more_parameters_laid at ps r f)

parameters_laid : (at : Place) (ps : List Parameter) (r : List Token)
    → laid (at_left at Opening) (parameters_then ps (MarkToken RightParen ∷ r))
    ≡ in_line (parameters_then ps []) ++ (41 ∷ laid (at_left at Operand) r)
unfolding laid parameters_then
parameters_laid at [] r = refl
parameters_laid at (p ∷ ps) r =
    append_joined _ _ _ _ _ _ (parameter_laid at p (more_parameters_then ps (MarkToken RightParen ∷ r)) (parameters_follow at ps
    (MarkToken RightParen ∷ r) refl)) (parameter_laid line p (more_parameters_then ps []) (parameters_follow line ps []
    (end_follows line))) (more_parameters_laid at ps (MarkToken RightParen ∷ r) refl)

-- parameters with a comma before each, or before each but the first
abbrev pub parameters_text : Bool → List rParameter → List ℕ
parameters_text true ps = in_line (parameters_then (map parameter ps) [])
parameters_text false ps = laid (at_left line Operand) (more_parameters_then (map parameter ps) [])

pub parameters_text_none : (first : Bool) → parameters_text first [] ≡ []
unfolding laid more_parameters_then parameters_then
parameters_text_none true = refl
parameters_text_none false = refl

pub parameters_text_more : (first : Bool) (p : rParameter) (ps : List rParameter) → parameters_text first (p ∷ ps)
    ≡ ((if first then [] else codes ", ") ++ in_line (parameter_then (parameter p) [])) ++ parameters_text false ps
unfolding laid more_parameters_then parameters_then
parameters_text_more true p ps = parameter_laid line (parameter p) (more_parameters_then (map parameter ps) []) (parameters_follow line
    (map parameter ps) [] (end_follows line))
parameters_text_more false p ps =
    ap (λ l. 44 ∷ l) (parameter_apart line (parameter p) (more_parameters_then (map parameter ps) [])
    ∙ ap (λ l. 32 ∷ l) (parameter_laid line (parameter p) (more_parameters_then (map parameter ps) []) (parameters_follow line
    (map parameter ps) [] (end_follows line))))

-- declarations

pub laid_procedure : (d : ℕ) (n : Option ℕ) (f : List ℕ) (ps : List Parameter) (ts : List Token) →
    laid (record { depth = d; label = n; left = Margin }) (WordToken WordProc ∷ NameToken f ∷ MarkToken LeftParen ∷ parameters_then ps
    (MarkToken RightParen ∷ MarkToken LeftBrace ∷ ts))
    ≡ ((plain_margin n ++ indent d) ++ (codes "proc " ++ (f ++ (codes "(" ++ (in_line (parameters_then ps []) ++ codes ")"))))) ++ laid
    (record { depth = d; label = n; left = Other }) (MarkToken LeftBrace ∷ ts)
unfolding laid
laid_procedure d n f ps ts =
    let at : Place = record { depth = d; label = n; left = Opening } in
    append_under (plain_margin n ++ indent d) _ _ _ (ap (λ l. 112 ∷ 114 ∷ 111 ∷ 99 ∷ 32 ∷ l) (append_under f _ _ _ (ap (λ l. 40 ∷ l)
    (parameters_laid at ps (MarkToken LeftBrace ∷ ts) ∙ append_under (in_line (parameters_then ps [])) _ (codes ")") _ refl))))

pub laid_array : (d : ℕ) (n : Option ℕ) (x : List ℕ) (e : ElementType) (k : ℕ) (ts : List Token) →
    laid (record { depth = d; label = n; left = Margin }) (WordToken WordArray ∷ NameToken x ∷ MarkToken Colon ∷ WordToken
    (element_word e) ∷ MarkToken LeftBracket ∷ NumberToken k ∷ MarkToken RightBracket ∷ MarkToken Semicolon ∷ ts)
    ≡ ((plain_margin n ++ indent d) ++ (codes "array " ++ (x ++ (codes ": " ++ (word_text (element_word e) ++ (codes "[" ++
    (decimal k ++ codes "];"))))))) ++ laid (record { depth = d; label = n; left = Ended }) ts
unfolding laid
laid_array d n x IntElement k ts =
    append_under (plain_margin n ++ indent d) _ _ _ (ap (λ l. 97 ∷ 114 ∷ 114 ∷ 97 ∷ 121 ∷ 32 ∷ l) (append_under x _ _ _ (ap
    (λ l. 58 ∷ 32 ∷ 105 ∷ 110 ∷ 116 ∷ 91 ∷ l) (append_under (decimal k) _ (codes "];") _ refl))))
laid_array d n x ByteElement k ts =
    append_under (plain_margin n ++ indent d) _ _ _ (ap (λ l. 97 ∷ 114 ∷ 114 ∷ 97 ∷ 121 ∷ 32 ∷ l) (append_under x _ _ _ (ap
    (λ l. 58 ∷ 32 ∷ 98 ∷ 121 ∷ 116 ∷ 101 ∷ 91 ∷ l) (append_under (decimal k) _ (codes "];") _ refl))))

pub laid_main : (d : ℕ) (n : Option ℕ) (ts : List Token)
    → laid (record { depth = d; label = n; left = Margin }) (WordToken WordMain ∷ MarkToken LeftBrace ∷ ts)
    ≡ ((plain_margin n ++ indent d) ++ codes "main") ++ laid (record { depth = d; label = n; left = Other }) (MarkToken LeftBrace ∷ ts)
unfolding laid
laid_main d n ts = append_under (plain_margin n ++ indent d) _ (codes "main") _ refl

-- a label, right-aligned in five columns

padded_shape : (p k : ℕ) (digits : List ℕ) → p ≡ k
    → ((((repeat {A = ℕ} p (32 ∷ []) ++ []) ++ []) ++ []) ++ (digits ++ repeat {A = ℕ} (p - p) (32 ∷ []))) ++ (32 ∷ [])
    ≡ replicate k 32 ++ (digits ++ (32 ∷ []))
padded_shape p k digits e =
    let space : List ℕ = 32 ∷ [] in
    let fill : List ℕ = repeat p space in
    let none : p - p ≡ 0 = omega arith in
    let trimmed = append-nil ((fill ++ []) ++ []) ∙ append-nil (fill ++ []) ∙ append-nil fill in
    ap (λ m. ((((fill ++ []) ++ []) ++ []) ++ (digits ++ repeat m space)) ++ space) none
    ∙ ap (λ l. (l ++ (digits ++ [])) ++ space) (trimmed ∙ spaces p ∙ ap (λ m. replicate m 32) e)
    ∙ ap (λ l. (replicate k 32 ++ l) ++ space) (append-nil digits)
    ∙ append_assoc (replicate k 32) digits space

pub label_padded : (n : ℕ) → styled_decimal (format_spec 32 3 0 5 18446744073709551615) n ++ (32 ∷ []) ≡ label_text n
unfolding padded_integral char_count lib.Utf8.encode
label_padded n = padded_shape (5 - length (decimal n) - 0 - 0) (5 - length (decimal n)) (decimal n) (omega arith)

-- if nothing is written yet, everything is formatted from the start
pub begins_text : (lines : Lines) (ts : List Token) (n : Option ℕ) {text : List ℕ} → string_bytes lines.text ≡ [] → lines.depth ≡ 0
    → lines.label ≡ n → with_rest lines Margin ts ≡ text → text ≡ laid (record { depth = 0; label = n; left = Margin }) ts
begins_text lines ts n none depth label all =
    sym all
    ∙ ap (λ l. l ++ laid (place lines Margin) ts) none
    ∙ ap (λ d. laid (record { depth = d; label = lines.label; left = Margin }) ts) depth
    ∙ ap (λ l. laid (record { depth = 0; label = l; left = Margin }) ts) label
