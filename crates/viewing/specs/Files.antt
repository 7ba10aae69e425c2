-- The contents of files after a command that may write one.
use Rattle.std.specs.Prelude.{ℕ, ◌≡◌, List, Result, Ok, Err}
use Rattle.files.specs.Held.{Held, IsGiven, KeepsOthers}
use Rattle.failures.specs.declared.failure.Failure.{Failure}
use Rattle.failures.specs.declared.failure.Failure.TheVariants.{CannotWrite, CannotWriteOutput, NoMemory}

-- the file with this name was written, and no other: it has correct bytes
pub record Wrote (name : List ℕ) (AreRight : (bytes : List ℕ) → Type 0) (held later : Held) : Type 0 where
  pub bytes : List ℕ
  pub right : AreRight bytes
  pub given : IsGiven (later name) (Ok bytes)
  pub others : KeepsOthers name held later

-- the file with this name is written before the standard output; if it can't be written, nothing is known
-- of it; if a command fails for another reason, all files are unchanged
abbrev pub WritesTo : {T : Type 0} → (name : List ℕ) → (AreRight : (bytes : List ℕ) → Type 0)
    → (held later : Held)
    → Result T Failure → Type 0
WritesTo name AreRight held later (Ok status) = Wrote name AreRight held later
WritesTo name AreRight held later (Err CannotWriteOutput) = Wrote name AreRight held later
WritesTo name AreRight held later (Err (CannotWrite told)) = KeepsOthers name held later
WritesTo name AreRight held later (Err NoMemory) = KeepsOthers name held later
WritesTo name AreRight held later (Err _) = later ≡ held
