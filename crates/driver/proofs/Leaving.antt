-- The contents of files after a parallel run.
use Rattle.std.proofs.Common.{◌≡◌, inl, inr, ℕ, List, Option, Some, None, Result, Ok, Err, refl, subst, sym}
use Rattle.std.specs.Prelude.{IfErr, IsErrAnd}
use Rattle.types.specs.Code.{Array}
use Rattle.command_line.specs.Requests.{Settings, Source}
use Rattle.files.specs.Held.{Held, TellsNoInput}
use Rattle.failures.specs.declared.failure.Failure.{Failure}
use Rattle.failures.specs.declared.failure.Failure.TheVariants.{NoMemory}
use Rattle.failures.specs.declared.failure.Failure.TheVariants.{Run as RunFailed, CannotWrite, CannotWriteOutput}
use Rattle.commands.specs.Answers.{Explains, IsExplored, TellsNotAccepted, TellsNotBegun}
use Rattle.commands.proofs.Answering.{IsOther}
use Rattle.command_line.specs.declared.request.Command.TheVariants.{Run}
use Rattle.viewing.specs.Files.{Wrote, WritesTo}
use Rattle.viewing.proofs.Written.{others_kept, wrote_anyway}
use Rattle.driver.specs.Traced.{TellsNoRun, WritesTrace}

-- ---- a run without an outcome

-- of a text's program without a race, on its input
pub no_run_explained : (s : Settings) (held : Held) (text : List ℕ) → IsExplored s held text → (f : Failure) → TellsNoRun s f
    → Explains Run s held text f
no_run_explained s held text run (RunFailed e) told = record { as_tasks = refl; run = run; why = told }
no_run_explained s held text run (CannotWrite name) told = record { as_tasks = refl; run = run; why = told }
no_run_explained s held text run NoMemory told = tt
no_run_explained s held text run _ told = absurd told

pub no_run_other : (s : Settings) (f : Failure) → TellsNoRun s f → IsOther f
no_run_other s CannotWriteOutput told = told
no_run_other s _ told = tt

-- ---- what is written

-- a failure before anything is written
abbrev pub IsEarly : Failure → Type 0
IsEarly CannotWriteOutput = ⊥
IsEarly (CannotWrite told) = ⊥
IsEarly _ = Unit {0}

early_not_accepted : (text : List ℕ) (f : Failure) → TellsNotAccepted text f → IsEarly f
early_not_accepted text CannotWriteOutput told = told
early_not_accepted text (CannotWrite name) told = told
early_not_accepted text _ told = tt

early_no_input : (input : Option Source) (held : Held) (arrays : List Array) (f : Failure)
    → TellsNoInput input held arrays f → IsEarly f
early_no_input input held arrays CannotWriteOutput told = told
early_no_input input held arrays (CannotWrite name) told = told
early_no_input input held arrays _ told = tt

pub early_not_begun : (s : Settings) (held : Held) (text : List ℕ) (f : Failure) → TellsNotBegun s held text f → IsEarly f
early_not_begun s held text f (inl refused) = early_not_accepted text f refused
early_not_begun s held text f (inr lack) = early_no_input s.input held lack.code.arrays f lack.why

module _ (T : Type 0) (AreRight : (bytes : List ℕ) → Type 0) (held later : Held) (keeps : later ≡ held) where
  nothing_to : (name : List ℕ) (f : Failure) → IsEarly f → WritesTo {T = T} name AreRight held later (Err f)
  nothing_to name CannotWriteOutput early = absurd early
  nothing_to name (CannotWrite told) early = absurd early
  nothing_to name NoMemory early = others_kept name held later keeps
  nothing_to name _ early = keeps

  nothing_written : (file : Option (List ℕ)) (f : Failure) → IsEarly f → WritesTrace {T = T} file AreRight held later (Err f)
  nothing_written None f early = keeps
  nothing_written (Some name) f early = nothing_to name f early

  -- a failure that is passed on
  pub passes_early : (file : Option (List ℕ)) (r : Result T Failure) (f : Failure) → IsErrAnd r (λ y. y ≡ f) → IsEarly f
      → WritesTrace file AreRight held later r
  passes_early file (Ok x) f is early = absurd is
  passes_early file (Err y) f is early =
      subst (λ (g : Failure). WritesTrace {T = T} file AreRight held later (Err g)) (sym is) (nothing_written file f early)

-- what was written of a run is what was written of the program of a text
module _ (T U : Type 0) (P Q : (bytes : List ℕ) → Type 0) (held later : Held) (so : (bytes : List ℕ) → P bytes → Q bytes) where
  wrote_so : (name : List ℕ) → Wrote name P held later → Wrote name Q held later
  wrote_so name w = record { bytes = w.bytes; right = so w.bytes w.right; given = w.given; others = w.others }

  failed_so : (name : List ℕ) (f : Failure) → WritesTo {T = T} name P held later (Err f) → WritesTo {T = U} name Q held later (Err f)
  failed_so name CannotWriteOutput w = wrote_so name w
  failed_so name (CannotWrite told) w = w
  failed_so name NoMemory w = w
  failed_so name _ w = w

  failed_by : (file : Option (List ℕ)) (f : Failure) → WritesTrace {T = T} file P held later (Err f)
      → WritesTrace {T = U} file Q held later (Err f)
  failed_by None f w = w
  failed_by (Some name) f w = failed_so name f w

  pub passes_failed : (file : Option (List ℕ)) (r : Result U Failure) (f : Failure) → IsErrAnd r (λ y. y ≡ f)
      → WritesTrace {T = T} file P held later (Err f) → WritesTrace file Q held later r
  passes_failed file (Ok x) f is w = absurd is
  passes_failed file (Err y) f is w =
      subst (λ (g : Failure). WritesTrace {T = U} file Q held later (Err g)) (sym is) (failed_by file f w)

  pub told_behind : (file : Option (List ℕ)) (x : T) (r : Result U Failure) → WritesTrace file P held later (Ok x)
      → IfErr r (λ f. f ≡ CannotWriteOutput) → WritesTrace file Q held later r
  told_behind None x r w only = w
  told_behind (Some name) x r w only = wrote_anyway name Q held later r (wrote_so name w) only

-- files were read before
pub traced_since : {T : Type 0} (AreRight : (bytes : List ℕ) → Type 0) (mid held later : Held) → mid ≡ held
    → (file : Option (List ℕ)) (r : Result T Failure) → WritesTrace file AreRight mid later r
    → WritesTrace file AreRight held later r
traced_since AreRight mid held later keeps file r w =
    subst (λ (h : Held). WritesTrace file AreRight h later r) keeps w
