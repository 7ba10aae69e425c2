-- The effect of `fmt --write` on the file of a program, and the reasons for failures.
use Rattle.std.specs.Prelude.{ℕ, ◌≡◌, List, [], Result, Ok, Err}
use Rattle.std.specs.Str.{chars}
use Rattle.std.specs.String.{string_bytes}
use Rattle.syntax.specs.Lexical.{AreTokensOf}
use Rattle.syntax.specs.Spelling.{spelling}
use Rattle.syntax_tree.specs.Tree as tree
use Rattle.layout.specs.Kept.{IsLaidOut}
use Rattle.files.specs.Held.{Held, IsGiven, KeepsOthers}
use Rattle.failures.specs.declared.failure.Failure.{Failure}
use Rattle.failures.specs.declared.failure.Failure.TheVariants.{Syntax, CannotWrite}
use Rattle.failures.specs.declared.failure.Failure.TheVariants.{CannotWriteOutput, NoMemory}
use Rattle.commands.specs.Answers.{IsLayoutOf, NeedsLayout, TellsUnspelled}

-- nothing is printed for a text that spells a program
pub record AnswersRewrite (text told : List ℕ) (status : ℕ) : Type 0 where
  pub program : tree.Program
  pub spelled : AreTokensOf (chars text) (spelling program)
  pub told_is : told ≡ []
  pub status_is : status ≡ 0

-- a failure is one of the text, or the file must be written but can't be; only out of memory needs no
-- reason
abbrev pub ExplainsRewrite : (file text : List ℕ) → Failure → Type 0
ExplainsRewrite file text (Syntax e) = TellsUnspelled text (Syntax e)
ExplainsRewrite file text (CannotWrite told) = (string_bytes told ≡ file) × NeedsLayout text
ExplainsRewrite file text CannotWriteOutput = Unit {0}
ExplainsRewrite file text NoMemory = Unit {0}
ExplainsRewrite file text _ = ⊥

-- the file was written, and no other: it has the text in the canonical layout, with its comments, which
-- spells the same program
pub record Rewrote (file text : List ℕ) (held later : Held) : Type 0 where
  pub bytes : List ℕ
  pub program : tree.Program
  pub spelled : AreTokensOf (chars text) (spelling program)
  pub layout : IsLayoutOf text program bytes
  pub given : IsGiven (later file) (Ok bytes)
  pub others : KeepsOthers file held later

-- this was done; or the text was already formatted, and no file was written
pub data LeavesLaidOut (file text : List ℕ) (held later : Held) : Type 0 where
  rewritten : Rewrote file text held later → LeavesLaidOut file text held later
  was_laid_out : IsLaidOut (chars text) (chars text) → later ≡ held → LeavesLaidOut file text held later

-- if a file can't be written, nothing is known of it; if a command fails for another reason, all files are
-- unchanged
abbrev pub LeavesRewritten : (file text : List ℕ) → (held later : Held) → Result ℕ Failure → Type 0
LeavesRewritten file text held later (Ok status) = LeavesLaidOut file text held later
LeavesRewritten file text held later (Err CannotWriteOutput) = LeavesLaidOut file text held later
LeavesRewritten file text held later (Err (CannotWrite told)) = KeepsOthers file held later
LeavesRewritten file text held later (Err NoMemory) = KeepsOthers file held later
LeavesRewritten file text held later (Err _) = later ≡ held
