-- The object that tells where the run of a text's program by choices stands, and why there is none.
use Rattle.std.specs.Prelude.{ℕ, ℤ, ◌≡◌, ◌≢◌, List}
use Rattle.syntax.specs.declared.place.TextPlace.{TextPlace}
use Rattle.types.specs.Code.{Array, Program}
use Rattle.step_trees.specs.Standing.{Candidate, HasEnded, MayStep, Misses, Standing, standing}
use Rattle.command_line.specs.Requests.{Settings}
use Rattle.files.specs.Choosing.{TellsNoChoices}
use Rattle.files.specs.Held.{Held}
use Rattle.failures.specs.declared.failure.Failure.{Failure}
use Rattle.failures.specs.declared.failure.Failure.TheVariants.{CannotWriteOutput, NoLeaf, NoMemory}
use Rattle.commands.specs.Answers.{HasInput, TellsNotGiven}
use Rattle.commands.specs.Chosen.{AreChosen}
use Rattle.json_answers.specs.Candidates.{open_json}
use Rattle.json_answers.specs.Objects.{ArePlaces, TellsOutcome}
use Rattle.json_answers.specs.Pieces.{line}

-- the object of these tasks of the text's program, and its status
pub record TellsOpen (cs : List Candidate) (text told : List ℕ) (status : ℕ) : Type 0 where
  pub places : List TextPlace
  pub begun : ArePlaces text places
  pub told_is : told ≡ line (open_json places cs)
  pub status_is : status ≡ 3

-- the object of a run that stands there
abbrev pub TellsWhere : (declared : List Array) → Standing → (text told : List ℕ) → (status : ℕ) → Type 0
TellsWhere declared (HasEnded o) text told status = TellsOutcome declared o text told status
TellsWhere declared (MayStep cs) text told status = TellsOpen cs text told status
TellsWhere declared (Misses n) text told status = ⊥

-- the text's program, whether or not it has a race, with the input and the choices that were given
pub record IsRunByChoices (s : Settings) (held : Held) (text : List ℕ) : Type 0 where
  pub code : Program
  pub input : List (List ℤ)
  pub given : HasInput s held text code input
  pub choices : List ℕ
  pub chosen : AreChosen s.choices held code input choices

-- `explore --format json`: where its run stands
pub record ObjectOfStanding (s : Settings) (held : Held) (text told : List ℕ) (status : ℕ) : Type 0 where
  pub run : IsRunByChoices s held text
  pub tells : TellsWhere run.code.arrays (standing run.code run.input run.choices) text told status

-- the text's program has an input, but there are no choices
pub record LacksChoosing (s : Settings) (held : Held) (text : List ℕ) (f : Failure) : Type 0 where
  pub code : Program
  pub input : List (List ℤ)
  pub given : HasInput s held text code input
  pub why : TellsNoChoices s.choices held f

-- the choice with this number is the first that names no task
pub record LacksTask (s : Settings) (held : Held) (text : List ℕ) (n : ℕ) : Type 0 where
  pub run : IsRunByChoices s held text
  pub misses : standing run.code run.input run.choices ≡ Misses n

-- why there is no such object: no program or no input, no choices, a choice that names no task, no memory,
-- or a writer that failed
pub data TellsUnexplored (s : Settings) (held : Held) (text : List ℕ) : Failure → Type 0 where
  not_given : (f : Failure) → TellsNotGiven s held text f → TellsUnexplored s held text f
  not_chosen : (f : Failure) → LacksChoosing s held text f → TellsUnexplored s held text f
  no_task : (n : ℕ) → LacksTask s held text n → TellsUnexplored s held text (NoLeaf n)
  no_memory : TellsUnexplored s held text NoMemory
  not_written : TellsUnexplored s held text CannotWriteOutput

-- there is a reason, and it isn't that none could be written
pub record FailsUnexplored (s : Settings) (held : Held) (text : List ℕ) (f : Failure) : Type 0 where
  pub why : TellsUnexplored s held text f
  pub early : f ≢ CannotWriteOutput
