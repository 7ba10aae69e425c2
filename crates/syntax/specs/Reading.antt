-- What it means that tokens were read as a tree, and which tokens continue what comes before them.
use Rattle.std.specs.Prelude.{◌≡◌, ◌≢◌, ◌<◌, ℕ, List, [], ◌∷◌, ◌++◌}
use Rattle.std.specs.Borrow.{Bor}
use Rattle.syntax.specs.declared.cursor.Stuck.{Stuck}
use Rattle.syntax.specs.declared.cursor.Stuck.TheVariants.{OutOfMemory}
use Rattle.syntax.specs.declared.token.Spanned.{Spanned}
use Rattle.syntax.specs.declared.token.Word.{Word}
use Rattle.syntax.specs.declared.token.Word.TheVariants.{And as WordAnd, Array as WordArray, Else as WordElse}
use Rattle.syntax.specs.declared.token.Word.TheVariants.{Or as WordOr, Proc as WordProc, Rescue as WordRescue}
use Rattle.syntax.specs.declared.token.Mark.{Mark}
use Rattle.syntax.specs.declared.token.Mark.TheVariants.{LeftBracket, Comma, Plus, Minus, Star}
use Rattle.syntax.specs.declared.token.Mark.TheVariants.{Slash, Percent, Less}
use Rattle.syntax.specs.declared.token.Mark.TheVariants.{AtMost, Greater, AtLeast, Equal, Differs}
use Rattle.syntax_tree.specs.declared.tree.Expr.{Expr}
use Rattle.syntax.specs.Spelling.{more_then}
use Rattle.syntax.specs.Token.{Token, NameToken, NumberToken, WordToken, MarkToken, plain}
use Rattle.syntax_tree.specs.Tree.{exprs}

-- other expressions follow the earlier ones, and each is spelled with a comma before it
pub record AddsExprs (earlier all : List Expr) (before rest : List Token) : Type 0 where
  pub others : List Expr
  pub added : all ≡ earlier ++ others
  pub spelled : before ≡ more_then (exprs others) rest

-- What continues what comes before it, the loosest first.

-- a comma, `array`, `proc`: one more in a list
abbrev pub list_level : ℕ
list_level = 1

-- `or`
abbrev pub or_level : ℕ
or_level = 2

-- `and`
abbrev pub and_level : ℕ
and_level = 3

-- `<` and the like
abbrev pub relation_level : ℕ
relation_level = 4

-- `+`, `-`
abbrev pub sign_level : ℕ
sign_level = 5

-- `*`, `/`, `%`
abbrev pub operator_level : ℕ
operator_level = 6

-- `[`, after a name
abbrev pub bracket_level : ℕ
bracket_level = 7

-- `else`, `rescue`
abbrev pub else_level : ℕ
else_level = 8

-- how tightly a word binds to what comes before it; 0 if it doesn't continue it
abbrev pub word_binds : Word → ℕ
word_binds WordArray = list_level
word_binds WordProc = list_level
word_binds WordOr = or_level
word_binds WordAnd = and_level
word_binds WordElse = else_level
word_binds WordRescue = else_level
word_binds _ = 0

-- how tightly a mark binds to what comes before it
abbrev pub mark_binds : Mark → ℕ
mark_binds Comma = list_level
mark_binds Less = relation_level
mark_binds AtMost = relation_level
mark_binds Greater = relation_level
mark_binds AtLeast = relation_level
mark_binds Equal = relation_level
mark_binds Differs = relation_level
mark_binds Plus = sign_level
mark_binds Minus = sign_level
mark_binds Star = operator_level
mark_binds Slash = operator_level
mark_binds Percent = operator_level
mark_binds LeftBracket = bracket_level
mark_binds _ = 0

-- how tightly the first of these tokens binds to what comes before it
abbrev pub binds : List Token → ℕ
binds [] = 0
binds (NameToken _ ∷ _) = 0
binds (NumberToken _ ∷ _) = 0
binds (WordToken w ∷ _) = word_binds w
binds (MarkToken m ∷ _) = mark_binds m

-- how trees are spelled, with other tokens after them
abbrev pub Spells : Type 0 → Type 0
Spells Tree = Tree → List Token → List Token

-- the tokens spell no tree, if what follows it binds less tightly
abbrev pub SpellsNone : {Tree : Type 0} → Spells Tree → ℕ → List Token → Type 0
SpellsNone spell level tokens =
    (tree : _) (rest : List Token) → binds rest < level → tokens ≢ spell tree rest

-- for any tree that the tokens spell, if what follows it binds less tightly, these tokens follow it
abbrev pub Leaves : {Tree : Type 0} → Spells Tree → ℕ → List Token → List Token → Type 0
Leaves spell level tokens left =
    (tree : _) (rest : List Token) → binds rest < level → tokens ≡ spell tree rest → left ≡ rest

-- these tokens were read as this tree: they spell it up to the remaining tokens, and they spell no
-- other tree, and no more or less of it
pub record IsRead {Tree : Type 0} (spell : Spells Tree) (level : ℕ) (tokens : List Token) (tree : Tree)
    (left : List Token) : Type 0 where
  pub spelled : tokens ≡ spell tree left
  pub whole : Leaves spell level tokens left

-- the result of reading these tokens, with the remaining tokens, represents a tree
abbrev pub ReadsAs : {T Tree : Type 0} → (T → Tree) → Spells Tree → ℕ → List Token
    → T × Bor (List Spanned) → Type 0
ReadsAs tree spell level tokens read = IsRead spell level tokens (tree read.0) (plain read.1.now)

-- tokens are rejected only if they spell no tree, unless memory runs out
abbrev pub Refuses : {Tree : Type 0} → Spells Tree → ℕ → List Token → Stuck → Type 0
Refuses spell level tokens stuck = stuck ≢ OutOfMemory → SpellsNone spell level tokens

-- The same definitions for trees that end with their own token, after which anything can follow.

abbrev pub SpellsNoneClosed : {Tree : Type 0} → Spells Tree → List Token → Type 0
SpellsNoneClosed spell tokens = (tree : _) (rest : List Token) → tokens ≢ spell tree rest

abbrev pub LeavesClosed : {Tree : Type 0} → Spells Tree → List Token → List Token → Type 0
LeavesClosed spell tokens left =
    (tree : _) (rest : List Token) → tokens ≡ spell tree rest → left ≡ rest

pub record IsReadClosed {Tree : Type 0} (spell : Spells Tree) (tokens : List Token) (tree : Tree)
    (left : List Token) : Type 0 where
  pub spelled : tokens ≡ spell tree left
  pub whole : LeavesClosed spell tokens left

abbrev pub ReadsClosed : {T Tree : Type 0} → (T → Tree) → Spells Tree → List Token
    → T × Bor (List Spanned) → Type 0
ReadsClosed tree spell tokens read = IsReadClosed spell tokens (tree read.0) (plain read.1.now)

abbrev pub RefusesClosed : {Tree : Type 0} → Spells Tree → List Token → Stuck → Type 0
RefusesClosed spell tokens stuck = stuck ≢ OutOfMemory → SpellsNoneClosed spell tokens
