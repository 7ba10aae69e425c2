-- What a writer of lines has written.
use Rattle.std.specs.Prelude.{◌≡◌, ◌≤◌, ℕ, Bool, true, false, List, ◌++◌, length, unwrap_or}
use Rattle.std.specs.String.{string_bytes}
use Rattle.syntax.specs.declared.canonical.Lines.{Lines}
use Rattle.syntax.specs.Canonical.{Place, laid}
use Rattle.syntax.specs.declared.token.Left.{Left}
use Rattle.syntax.specs.Token.{Token}
use Rattle.syntax_tree.specs.Tree.{Stmt, Skip, Var, Assign, Store, Print, Fault, If, IfElse, While, Split}
use Rattle.syntax_tree.specs.Tree.{Parts, Call, Async, Finish, Rescue}

-- the state of the writer, with this to the left
abbrev pub place : Lines → Left → Place
place lines left = record { depth = lines.depth; label = lines.label; left = left }

-- what is written, followed by the text of the tokens to come
abbrev pub with_rest : Lines → Left → List Token → List ℕ
with_rest lines left ts = string_bytes lines.text ++ laid (place lines left) ts

-- text was added, and nothing else changed
pub record Adds (old new : Lines) (added : List ℕ) : Type 0 where
  pub text : string_bytes new.text ≡ string_bytes old.text ++ added
  pub depth : new.depth ≡ old.depth
  pub label : new.label ≡ old.label

-- each open block and each statement has written something, so their numbers don't overflow
pub record IsCounted (lines : Lines) : Type 0 where
  pub blocks : lines.depth ≤ length (string_bytes lines.text)
  pub statements : unwrap_or lines.label 0 ≤ length (string_bytes lines.text)

-- a statement with no block
abbrev pub is_simple : Stmt → Bool
is_simple (If e b) = false
is_simple (IfElse e b c) = false
is_simple (While e b) = false
is_simple (Split s e x y b) = false
is_simple (Parts s e x i b) = false
is_simple (Async b) = false
is_simple (Finish b) = false
is_simple (Rescue b x c) = false
is_simple Skip = true
is_simple (Var x e) = true
is_simple (Assign x e) = true
is_simple (Store s i e) = true
is_simple (Print e es) = true
is_simple (Fault e) = true
is_simple (Call f es) = true
