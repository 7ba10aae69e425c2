-- An `.out` file that is written, or has the right bytes already.
use Rattle.std.proofs.Common.{◌≡◌, ◌≢◌, ℕ, List, Option, Some, None, Ok, Err, refl, sym, ◌∙◌, subst, codes}
use Rattle.std.proofs.lemmas.Bool.{false≢true}
use Rattle.std.proofs.lemmas.Slice.Eq.{bytes_eq-Decides}
use Rattle.std.specs.Prelude.{Bool, true, false, MatchBool}
use Rattle.std.specs.Str.{bytes_eq}
use Rattle.types.specs.Translation.{input as lists_of}
use Rattle.types.specs.Typed.{code_of}
use Rattle.files.specs.Held.{Bytes, Held, IsGiven, KeepsOthers}
use Rattle.files.specs.declared.file_source.FileError.{FileError}
use Rattle.files.specs.declared.file_source.FileError.TheVariants.{Failed as Unread, NoMemory as NoMemoryInFile}
use Rattle.failures.specs.Failures.{TellsUnwritten}
use Rattle.failures.specs.declared.failure.Failure.{Failure}
use Rattle.commands.specs.declared.question.Begun.{Begun}
use Rattle.test_and_bench.specs.Trials.{Differs, IsBegun, IsUnwritten, IsWritten, Prints, Trial, file, told_by}
use Rattle.test_and_bench.specs.Trials.{anew, as_it_was, not_written}
use Rattle.test_and_bench.proofs.Trying.{prints}

-- ---- what is known of a file

abbrev read : List ℕ → Bytes
read xs = Ok xs

abbrev refused : FileError → Bytes
refused e = Err e

same_bytes : (xs ys : List ℕ) → read xs ≡ read ys → xs ≡ ys
same_bytes xs ys is = cc

was_read : (xs : List ℕ) (e : FileError) → read xs ≡ refused e → ⊥
was_read xs e is = cc

other_error : refused Unread ≡ refused NoMemoryInFile → ⊥
other_error is = cc

some_is : (x y : Bytes) → Some x ≡ Some y → x ≡ y
some_is x y is = cc

none_known : (x : Bytes) → (let o : Option Bytes = None in o) ≡ Some x → ⊥
none_known x is = cc

-- a file that can't be read isn't known to have these bytes
pub unread_differs : (known : Option Bytes) (told : List ℕ) → IsGiven known (Err Unread) → Differs known told
unread_differs None told given bytes is = absurd (none_known (read bytes) is)
unread_differs (Some x) told given bytes is =
    absurd (was_read bytes Unread (sym (given other_error ∙ some_is x (read bytes) is)))

read_differs : (known : Option Bytes) (found told : List ℕ) → IsGiven known (Ok found) → found ≢ told → Differs known told
read_differs None found told given other bytes is = absurd (none_known (read bytes) is)
read_differs (Some x) found told given other bytes is = λ same.
    other (same_bytes found bytes (given (was_read found NoMemoryInFile) ∙ some_is x (read bytes) is) ∙ same)

-- one that was read
pub has_so : (known : Option Bytes) (found told : List ℕ) (b : Bool) → b ≡ bytes_eq found told → IsGiven known (Ok found)
    → MatchBool b (IsGiven known (Ok told)) (Differs known told)
has_so known found told true is given =
    subst (λ (bs : List ℕ). IsGiven known (Ok bs)) ((bytes_eq-Decides found told).0 (sym is)) given
has_so known found told false is given =
    read_differs known found told given (λ same. false≢true (is ∙ (bytes_eq-Decides found told).1 same))

-- it is so for a name and bytes that are equal
pub found_for : (held mid : Held) → mid ≡ held → (asked name seen told : List ℕ) (has : Bool) → asked ≡ name → seen ≡ told
    → MatchBool has (IsGiven (mid asked) (Ok seen)) (Differs (mid asked) seen)
    → MatchBool has (IsGiven (mid name) (Ok told)) (Differs (mid name) told)
found_for held mid before asked name seen told has same is found =
    subst (λ (n : List ℕ). MatchBool has (IsGiven (mid n) (Ok told)) (Differs (mid n) told)) same
    (subst (λ (bs : List ℕ). MatchBool has (IsGiven (mid asked) (Ok bs)) (Differs (mid asked) bs)) is found)

-- ---- what was done

module _ (held mid later : Held) (t : Trial) (b : Begun) (name told : List ℕ) (begun : IsBegun held t b)
    (told_is : told ≡ told_by t.settings.budget (code_of b.accepted.typed) (lists_of b.input)) (before : mid ≡ held)
    (named : name ≡ file t (codes ".out")) where
  printed_so : Prints held t told
  printed_so = subst (Prints held t) (sym told_is) (prints held t b begun)

  -- the file had these bytes
  pub had_before : (has : Bool) → has ≡ true → MatchBool has (IsGiven (mid name) (Ok told)) (Differs (mid name) told)
      → later ≡ mid → IsWritten held t later false
  had_before has is found same =
      let given = subst (λ (c : Bool). MatchBool c (IsGiven (mid name) (Ok told)) (Differs (mid name) told)) is found in
      as_it_was told printed_so
      (subst (λ (n : List ℕ). IsGiven (held n) (Ok told)) named (subst (λ (h : Held). IsGiven (h name) (Ok told)) before given))
      (same ∙ before) refl

  -- it was written
  pub written_anew : (has : Bool) → has ≡ false → MatchBool has (IsGiven (mid name) (Ok told)) (Differs (mid name) told)
      → (last : Held) → last ≡ mid → IsGiven (later name) (Ok told) → KeepsOthers name last later → IsWritten held t later true
  written_anew has is found last same given others =
      let differs = subst (λ (c : Bool). MatchBool c (IsGiven (mid name) (Ok told)) (Differs (mid name) told)) is found in
      anew told printed_so
      (subst (λ (n : List ℕ). Differs (held n) told) named (subst (λ (h : Held). Differs (h name) told) before differs))
      (subst (λ (n : List ℕ). IsGiven (later n) (Ok told)) named given)
      (subst (λ (n : List ℕ). KeepsOthers n held later) named (subst (λ (h : Held). KeepsOthers name h later) (same ∙ before) others))
      refl

  -- it can't be written
  pub unwritten : (f : Failure) (last : Held) → last ≡ mid → TellsUnwritten name f → KeepsOthers name last later
      → IsUnwritten held t later f
  unwritten f last same why others =
      not_written (subst (λ (n : List ℕ). TellsUnwritten n f) named why)
      (subst (λ (n : List ℕ). KeepsOthers n held later) named (subst (λ (h : Held). KeepsOthers name h later) (same ∙ before) others))
