-- Where the statements of a program start: for each statement, in the order of labels, the
-- program's tokens from its first token on.
use Rattle.std.specs.Prelude.{Bool, true, false, not, ◌&&◌, if◌then◌else◌, List, [], ◌∷◌, ◌++◌}
use Rattle.std.specs.Prelude.{Option, Some, None}
use Rattle.syntax.specs.declared.token.Word.TheVariants.{Else as WordElse, Rescue as WordRescue}
use Rattle.syntax.specs.declared.token.Mark.{Mark}
use Rattle.syntax.specs.declared.token.Mark.TheVariants.{LeftBrace, RightBrace, Semicolon}
use Rattle.syntax.specs.Canonical.{begins_statement, continues_line}
use Rattle.syntax.specs.Spelling.{stmt_then, block_then, procedures_then, main_tokens}
use Rattle.syntax.specs.Token.{Token, NameToken, NumberToken, WordToken, MarkToken}
use Rattle.syntax_tree.specs.Tree.{Stmt, Skip, Var, Assign, Store, Print, Fault, If, IfElse, While, Split}
use Rattle.syntax_tree.specs.Tree.{Parts, Call, Async, Finish, Rescue, Block, End, Then, Procedure, Main}
use Rattle.syntax_tree.specs.Tree.{Program}

unfoldable mutual
  -- the statements inside a statement, with other tokens after it
  pub inner_starts : Stmt → List Token → List (List Token)
  inner_starts Skip r = []
  inner_starts (Var x e) r = []
  inner_starts (Assign x e) r = []
  inner_starts (Store s i e) r = []
  inner_starts (Print e es) r = []
  inner_starts (Fault e) r = []
  inner_starts (If e b) r = block_starts b r
  inner_starts (IfElse e b c) r =
      block_starts b (WordToken WordElse ∷ MarkToken LeftBrace ∷ block_then c r) ++ block_starts c r
  inner_starts (While e b) r = block_starts b r
  inner_starts (Split s e x y b) r = block_starts b r
  inner_starts (Parts s e x i b) r = block_starts b r
  inner_starts (Call f es) r = []
  inner_starts (Async b) r = block_starts b r
  inner_starts (Finish b) r = block_starts b r
  inner_starts (Rescue b x c) r =
      block_starts b (WordToken WordRescue ∷ NameToken x ∷ MarkToken LeftBrace ∷ block_then c r)
      ++ block_starts c r

  -- the statements of a block: a statement starts with its spelling, before those inside it
  pub block_starts : Block → List Token → List (List Token)
  block_starts End r = []
  block_starts (Then s b) r =
      stmt_then s (block_then b r) ∷ (inner_starts s (block_then b r) ++ block_starts b r)

-- the statements of procedures, with other tokens after them
unfoldable pub procedures_starts : List Procedure → List Token → List (List Token)
procedures_starts [] r = []
procedures_starts (p ∷ ps) r = block_starts p.body (procedures_then ps r) ++ procedures_starts ps r

unfoldable pub main_starts : Option Main → List (List Token)
main_starts None = []
main_starts (Some m) = block_starts m.body []

-- the statements of a program, in the order of their labels
unfoldable pub starts : Program → List (List Token)
starts p = procedures_starts p.procedures (main_tokens p.main) ++ main_starts p.main

-- ---- the starts by tokens

-- a line ends after these marks
abbrev pub ends_line_by : Mark → Bool
ends_line_by Semicolon = true
ends_line_by LeftBrace = true
ends_line_by RightBrace = true
ends_line_by _ = false

abbrev pub ends_line : Token → Bool
ends_line (MarkToken m) = ends_line_by m
ends_line (NameToken x) = false
ends_line (NumberToken n) = false
ends_line (WordToken w) = false

-- a statement starts with this token, if a line may start there
abbrev pub begins_if_line : Token → Bool
begins_if_line t = begins_statement t && not (continues_line t)

-- the tokens from the start of each statement on; the boolean states whether a line ended before
-- the first token
unfoldable pub token_starts : Bool → List Token → List (List Token)
token_starts ended [] = []
token_starts ended (t ∷ ts) =
    if ended && begins_if_line t
    then (t ∷ ts) ∷ token_starts (ends_line t) ts
    else token_starts (ends_line t) ts
