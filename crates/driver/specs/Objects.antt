-- Answers as one object.
use Rattle.std.specs.Prelude.{ℕ, ◌≡◌, List, Option, Result, Ok, Err, MatchResult}
use Rattle.std.specs.String.{string_bytes}
use Rattle.command_line.specs.declared.request.Command.{Command}
use Rattle.command_line.specs.declared.request.Command.TheVariants.{Summary}
use Rattle.command_line.specs.Requests.{Settings}
use Rattle.files.specs.Held.{Held}
use Rattle.failures.specs.FailureStatus.{failure_status}
use Rattle.failures.specs.declared.failure.Failure.{Failure}
use Rattle.failures.specs.declared.failure.Failure.TheVariants.{CannotWriteOutput, NoMemory}
use Rattle.commands.specs.Answers.{Answer, Wrote}
use Rattle.json_answers.specs.Objects.{FailsEarly, ObjectOf}
use Rattle.json_answers.specs.AllEnds.{ObjectOfEnds}
use Rattle.json_answers.specs.Explored.{ObjectOfStanding, TellsUnexplored}
use Rattle.json_answers.specs.Failing.{FailedAsObject, TellsFailure}
use Rattle.json_answers.specs.Inspected.{ObjectOfInspect}
use Rattle.json_answers.specs.declared.object_line.ObjectLine.{ObjectLine}
use Rattle.command_words.specs.Orders.{command_of}
use Rattle.command_words.specs.declared.order.Schedules.{Schedules}
use Rattle.command_words.specs.declared.order.Schedules.TheVariants.{All, Chosen}
use Rattle.command_words.specs.declared.order.Subject.{Subject}
use Rattle.viewing.specs.Objects.{ObjectOfSummary}
use Rattle.viewing.specs.Views.{TellsNoTrace}
use Rattle.driver.specs.Acts.{ExplainsAny, Leaves}

-- the object written, with its status, answers the command for a program's text, or for a trace of its run
abbrev pub ObjectOfAny : Command → Settings → Held → (text : List ℕ) → Answer
ObjectOfAny Summary s held text = ObjectOfSummary s held text
ObjectOfAny c s held text = ObjectOf c s held text

-- there is a reason why there is no object, and it isn't that none could be written
abbrev pub FailsEarlyAny : Command → Settings → Held → (text : List ℕ) → Failure → Type 0
FailsEarlyAny Summary s held text f = TellsNoTrace s held text f
FailsEarlyAny c s held text f = FailsEarly c s held text f

-- the object of the answer was written; or there is a reason why there is none, and its object was written
pub record TellsObject (x : Subject) (file : List ℕ) (s : Settings) (text : List ℕ) (held later : Held)
    (old new : Option (List ℕ)) (r : Result ℕ Failure) : Type 0 where
  pub done : MatchResult r (Wrote (ObjectOfAny (command_of x) s held text) old new)
      (FailedAsObject (ObjectOfAny (command_of x) s held text) (ExplainsAny (command_of x) s held text)
      (TellsFailure file text) old new)
  pub leaves : Leaves (command_of x) s text held later r

-- the object about these schedules: where the run by the given choices stands, or the ends of the runs
abbrev pub ObjectOfSchedules : Schedules → Settings → Held → (text told : List ℕ) → (status : ℕ) → Type 0
ObjectOfSchedules Chosen s held text told status = ObjectOfStanding s held text told status
ObjectOfSchedules (All most) s held text told status = ObjectOfEnds most s held text told status

-- it was written; or there is a reason why there is none, and its object was written
pub record TellsSchedules (x : Schedules) (file : List ℕ) (s : Settings) (text : List ℕ) (held later : Held)
    (old new : Option (List ℕ)) (r : Result ℕ Failure) : Type 0 where
  pub done : MatchResult r (Wrote (ObjectOfSchedules x s held text) old new)
      (FailedAsObject (ObjectOfSchedules x s held text) (TellsUnexplored s held text) (TellsFailure file text) old new)
  pub keeps : later ≡ held

-- an answer, or the object of the failure why there is none and its status
abbrev pub IsDescribed : (file text : List ℕ) → Result ObjectLine Failure → ObjectLine → Type 0
IsDescribed file text (Ok o) t = t ≡ o
IsDescribed file text (Err f) t = TellsFailure file text f (string_bytes t.line) × (t.status ≡ failure_status f)

-- why several answers aren't written as one object
abbrev pub IsNotInspected : Failure → Type 0
IsNotInspected NoMemory = Unit {0}
IsNotInspected CannotWriteOutput = Unit {0}
IsNotInspected _ = ⊥

-- they were written; or there is a reason why they weren't, and its object was written
pub record TellsInspected (file : List ℕ) (s : Settings) (text : List ℕ) (held later : Held)
    (old new : Option (List ℕ)) (r : Result ℕ Failure) : Type 0 where
  pub done : MatchResult r (Wrote (ObjectOfInspect file s held text) old new)
      (FailedAsObject (ObjectOfInspect file s held text) IsNotInspected (TellsFailure file text) old new)
  pub keeps : later ≡ held

-- the status of an object
abbrev pub status_in : Result ObjectLine Failure → Result ℕ Failure
status_in (Ok told) = Ok told.status
status_in (Err f) = Err f
