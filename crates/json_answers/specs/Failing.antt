-- The object that reports why a command has no answer.
use Rattle.std.specs.Prelude.{ℕ, ◌≡◌, ◌≢◌, List, [], Option}
use Rattle.std.specs.Io.KnownBytes.{Keeps}
use Rattle.syntax.specs.declared.place.TextPlace.{TextPlace}
use Rattle.types.specs.Code.{Program}
use Rattle.types.specs.Typed.{code_of}
use Rattle.race_checker.specs.Races.{Race as ProgramRace}
use Rattle.race_checker.specs.Translation.{race as race_of}
use Rattle.witness.specs.Witness.{IsShortest, IsWitness}
use Rattle.witness.specs.declared.witness.Witness.{Witness}
use Rattle.printing.specs.Appending.{AppendsBeginning}
use Rattle.failures.specs.declared.failure.Failure.{Failure}
use Rattle.failures.specs.declared.least_race.LeastRace.{LeastRace}
use Rattle.failures.specs.declared.failure.Failure.TheVariants.{Types, Race, CannotWriteOutput}
use Rattle.json_answers.specs.Pieces.{line}
use Rattle.json_answers.specs.Refusals.{refusal_json}
use Rattle.json_answers.specs.Races.{race_json}
use Rattle.commands.specs.Answers.{Answer, Began}
use Rattle.json_answers.specs.Objects.{ArePlaces}
use Rattle.json_answers.specs.declared.reason.Reason.{Reason}

-- a race of a program, and a witness of it; no other witness has fewer steps. Why it is one, and the
-- suggestions, aren't specified
pub record ShowsRace (file : List ℕ) (places : List TextPlace) (code : Program)
    (race : ProgramRace) (told : List ℕ) : Type 0 where
  pub witness : Witness
  pub is_witness : IsWitness code race witness
  pub shortest : IsShortest code race witness
  pub reason : Reason
  pub told_is : told ≡ line (race_json file places code race witness reason)

-- the race of a failure, with the positions of the text's statements. `HasRace` states that it is the least race of the
-- text's program
pub record TellsRace (file text : List ℕ) (found : LeastRace) (told : List ℕ) : Type 0 where
  pub places : List TextPlace
  pub begun : ArePlaces text places
  pub shows : ShowsRace file places (code_of found.typed) (race_of found.race) told

-- a failure at a statement of the text's program
pub record TellsPlaced (file text : List ℕ) (f : Failure) (told : List ℕ) : Type 0 where
  pub places : List TextPlace
  pub begun : ArePlaces text places
  pub reason : Reason
  pub told_is : told ≡ line (refusal_json file places f reason)

-- another failure
pub record TellsBare (file : List ℕ) (f : Failure) (told : List ℕ) : Type 0 where
  pub reason : Reason
  pub told_is : told ≡ line (refusal_json file [] f reason)

-- the object of a failure; only a race and a broken rule have statements. Why it is one, the suggestions, and
-- the position of a failure that is neither at a statement nor in its line aren't specified
abbrev pub TellsFailure : (file text : List ℕ) → Failure → (told : List ℕ) → Type 0
TellsFailure file text (Race found) told = TellsRace file text found told
TellsFailure file text (Types e) told = TellsPlaced file text (Types e) told
TellsFailure file text f told = TellsBare file f told

-- the object was appended as far as the writer accepted it; or there was no memory for it
pub data IsToldAsObject (Tells : (told : List ℕ) → Type 0) (old new : Option (List ℕ)) : Type 0 where
  untold : Keeps old new → IsToldAsObject Tells old new
  told : (object : List ℕ) → Tells object → AppendsBeginning old new object → IsToldAsObject Tells old new

-- there is a reason, and its object was written; or, if writing failed, a prefix of the answer was
pub record FailedAsObject (Is : Answer) (Why : Failure → Type 0) (Tells : Failure → (told : List ℕ) → Type 0)
    (old new : Option (List ℕ)) (f : Failure) : Type 0 where
  pub why : Why f
  pub told : f ≢ CannotWriteOutput → IsToldAsObject (Tells f) old new
  pub begun : f ≡ CannotWriteOutput → Began Is old new
