-- Why there is no object, and that it isn't that none could be written.
use Rattle.std.proofs.Common.{◌≡◌, ℕ, List, None, Result, Ok, Err, sym, subst}
use Rattle.std.specs.Prelude.{IfErr}
use Rattle.types.specs.Code.{Program}
use Rattle.command_line.specs.Requests.{Settings}
use Rattle.command_line.specs.declared.request.Command.{Command}
use Rattle.files.specs.Held.{Held}
use Rattle.failures.specs.declared.failure.Failure.{Failure}
use Rattle.failures.specs.declared.failure.Failure.TheVariants.{NoMemory}
use Rattle.race_checker.specs.Clash.{IsAccepted}
use Rattle.commands.specs.Answers.{Explains, IsRunBy, LooksForRaces, TellsNotBegun}
use Rattle.commands.proofs.Answering.{IsOther, other_failure, not_begun_explained, not_begun_other}
use Rattle.json_answers.specs.Objects.{FailsEarly}

module _ (c : Command) (s : Settings) (held : Held) (text : List ℕ) where
  early : (f : Failure) → Explains c s held text f → IsOther f → FailsEarly c s held text f
  early f why other = record { why = why; early = other_failure f other }

  -- a text without an accepted program, or one without an input
  pub not_begun_early : (looks : LooksForRaces c) → ((code : Program) → IsAccepted code → IsRunBy c code) → (f : Failure)
      → TellsNotBegun s held text f → FailsEarly c s held text f
  not_begun_early looks runs f told =
      early f (not_begun_explained c looks s held text None runs f told) (not_begun_other c looks s held text None runs f told)

  pub memory_early : FailsEarly c s held text NoMemory
  memory_early = early NoMemory tt tt

  -- out of memory that is passed on
  pub memory_passed : {T : Type 0} (r : Result T Failure) → IfErr r (λ f. f ≡ NoMemory)
      → IfErr r (FailsEarly c s held text)
  memory_passed (Ok x) only = tt
  memory_passed (Err f) only = subst (FailsEarly c s held text) (sym only) memory_early
