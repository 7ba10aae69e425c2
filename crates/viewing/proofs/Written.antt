-- The contents of files after a failure.
use Rattle.std.proofs.Common.{◌≡◌, ℕ, List, Result, Ok, Err, ap, ◌∙◌, subst, sym}
use Rattle.std.specs.Prelude.{IfErr, IsErrAnd}
use Rattle.files.specs.Held.{Held, IsGiven, KeepsOthers}
use Rattle.failures.specs.Failures.{TellsUnwritten}
use Rattle.failures.specs.declared.failure.Failure.{Failure}
use Rattle.failures.specs.declared.failure.Failure.TheVariants.{CannotWrite, CannotWriteOutput, NoMemory}
use Rattle.viewing.specs.Files.{Wrote, WritesTo}

-- files that are unchanged
pub others_kept : (name : List ℕ) (held later : Held) → later ≡ held → KeepsOthers name held later
others_kept name held later keeps = λ other _. ap (λ (h : Held). h other) keeps

-- what was written is unchanged, whether or not the answer was written after it
pub wrote_anyway : {T : Type 0} (name : List ℕ) (AreRight : (bytes : List ℕ) → Type 0) (held later : Held)
    (r : Result T Failure) → Wrote name AreRight held later → IfErr r (λ f. f ≡ CannotWriteOutput)
    → WritesTo name AreRight held later r
wrote_anyway name AreRight held later (Ok x) wrote only = wrote
wrote_anyway {T = T} name AreRight held later (Err f) wrote only =
    subst (λ (g : Failure). WritesTo {T = T} name AreRight held later (Err g)) (sym only) wrote

-- a file was written, with these bytes
pub wrote : (name known : List ℕ) → name ≡ known → (AreRight : (bytes : List ℕ) → Type 0) (held mid later : Held)
    → mid ≡ held → (bytes : List ℕ) → AreRight bytes → IsGiven (later name) (Ok bytes) → KeepsOthers name mid later
    → Wrote known AreRight held later
wrote name known same AreRight held mid later keeps bytes right given others = record {
  bytes = bytes;
  right = right;
  given = subst (λ (n : List ℕ). IsGiven (later n) (Ok bytes)) same given;
  others = λ other differs. others other (λ is. differs (is ∙ same)) ∙ ap (λ (h : Held). h other) keeps;
}

-- a file could not be written, for this reason
pub unwritten_for : (T : Type 0) (name known : List ℕ) (AreRight : (bytes : List ℕ) → Type 0) (held later : Held) (f : Failure)
    → TellsUnwritten name f → KeepsOthers known held later → WritesTo {T = T} known AreRight held later (Err f)
unwritten_for T name known AreRight held later (CannotWrite told) why others = others
unwritten_for T name known AreRight held later NoMemory why others = others
unwritten_for T name known AreRight held later _ why others = absurd why

pub unwritten : {T : Type 0} (name known : List ℕ) → name ≡ known → (AreRight : (bytes : List ℕ) → Type 0) (held mid later : Held)
    → mid ≡ held → (r : Result T Failure) (f : Failure) → IsErrAnd r (λ y. y ≡ f) → TellsUnwritten name f
    → KeepsOthers name mid later → WritesTo known AreRight held later r
unwritten name known same AreRight held mid later keeps (Ok x) f is why others = absurd is
unwritten {T = T} name known same AreRight held mid later keeps (Err e) f is why others =
    subst (λ (g : Failure). WritesTo {T = T} known AreRight held later (Err g)) (sym is)
    (unwritten_for T name known AreRight held later f why
    (λ other differs. others other (λ equal. differs (equal ∙ same)) ∙ ap (λ (h : Held). h other) keeps))
