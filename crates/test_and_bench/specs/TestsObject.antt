-- The object of the results of a test.
use Rattle.std.specs.Prelude.{ℕ, ◌≡◌, Bool, List, [], ◌∷◌, codes, MatchResult, Option, Result}
use Rattle.std.specs.String.{string_bytes}
use Rattle.serde_json.specs.Data.{Data, boolean, string}
use Rattle.command_line.specs.Requests.{Settings}
use Rattle.commands.specs.Answers.{Wrote}
use Rattle.files.specs.Held.{Held}
use Rattle.failures.specs.declared.failure.Failure.{Failure}
use Rattle.failures.specs.declared.failure.Failure.TheVariants.{CannotRead}
use Rattle.json_answers.specs.Failing.{FailedAsObject, TellsFailure}
use Rattle.json_answers.specs.Pieces.{line, list_by, natural, object_of}
use Rattle.test_and_bench.specs.Folders.{Folders}
use Rattle.test_and_bench.specs.Trials.{AreResults, ExplainsTest, Judged, LeavesTested, failed_of, passed_of}
use Rattle.test_and_bench.specs.Trials.{tested_status}

-- the name of a program's file, its lines, which are empty if there are none, and whether it passes
abbrev pub judged_json : Judged → Data
judged_json j =
    object_of (
    (codes "file", string j.file) ∷ (codes "lines", string j.lines) ∷ (codes "passes", boolean j.passes) ∷ [])

-- how many failed and passed, the programs, and the exit status
abbrev pub tests_members : (programs : Data) → (passed failed : ℕ) → List (List ℕ × Data)
tests_members programs passed failed =
    (codes "failed", natural failed)
    ∷ (codes "passed", natural passed)
    ∷ (codes "programs", programs)
    ∷ (codes "status", natural (tested_status failed)) ∷ []

abbrev pub tests_json : List Judged → Data
tests_json js = object_of (tests_members (list_by judged_json js) (passed_of js) (failed_of js))

-- `test --format json`: the object of the results for the programs of these names
pub record ObjectOfTests (named : Folders) (held : Held) (names : List (List ℕ)) (writes : Bool) (under : Settings)
    (later : Held) (told : List ℕ) (status : ℕ) : Type 0 where
  pub judged : List Judged
  pub results : AreResults named held names writes under later judged
  pub told_is : told ≡ line (tests_json judged)
  pub status_is : status ≡ tested_status (failed_of judged)

-- the name in a failure, if it is that of a folder that can't be read
abbrev pub failed_name : Failure → List ℕ
failed_name (CannotRead name) = string_bytes name
failed_name f = []

-- the object of a failure, which isn't of a program's text
abbrev pub TellsUntested : Failure → (told : List ℕ) → Type 0
TellsUntested f told = TellsFailure (failed_name f) [] f told

-- the object of the results was written; or there is a reason why there is none, and its object was written
pub record TellsTests (named : Folders) (held : Held) (names : List (List ℕ)) (writes : Bool) (under : Settings)
    (later : Held) (old new : Option (List ℕ)) (r : Result ℕ Failure) : Type 0 where
  pub done : MatchResult r (Wrote (ObjectOfTests named held names writes under later) old new)
      (FailedAsObject (ObjectOfTests named held names writes under later) (ExplainsTest named names)
      TellsUntested old new)
  pub leaves : LeavesTested writes held later r
