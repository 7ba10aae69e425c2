-- The object of how long runs of a program take.
use Rattle.std.specs.Prelude.{ℕ, ◌≡◌, ◌≢◌, List, [], ◌∷◌, codes}
use Rattle.serde_json.specs.Data.{Data}
use Rattle.types.specs.Code.{Program}
use Rattle.types.specs.Outcome.{Outcome, outcome}
use Rattle.cost.specs.Costs.{cost_of, tally_of}
use Rattle.cost.specs.declared.cost.Cost.{Cost as Numbers}
use Rattle.printing.specs.OutcomeText.{status_of}
use Rattle.files.specs.Held.{Held}
use Rattle.command_line.specs.Requests.{Settings}
use Rattle.commands.specs.Answers.{IsExplored}
use Rattle.json_answers.specs.Objects.{TellsOutcome}
use Rattle.json_answers.specs.Pieces.{line, natural, object_of, or_null}
use Rattle.test_and_bench.specs.Times.{AreAllOfFive}
use Rattle.test_and_bench.specs.declared.times.Times.{Times}
use Rattle.test_and_bench.specs.declared.times.Timed.{Timed}

-- the minimum and the median of some runs, in microseconds
abbrev pub five_json : Times → Data
five_json t = object_of ((codes "median", natural t.median) ∷ (codes "min", natural t.least) ∷ [])

-- the durations of all runs, null for those that aren't made, what one of them costs, and the exit status
abbrev pub times_members : Timed → Numbers → List (List ℕ × Data)
times_members t c =
    (codes "copied_places", natural c.copied)
    ∷ (codes "on_all", or_null five_json t.on_all)
    ∷ (codes "on_one", five_json t.on_one)
    ∷ (codes "on_two", or_null five_json t.on_two)
    ∷ (codes "serial", five_json t.serial)
    ∷ (codes "small_tasks", natural c.small)
    ∷ (codes "span", natural c.span)
    ∷ (codes "status", natural 0)
    ∷ (codes "tasks", natural c.tasks)
    ∷ (codes "work", natural c.work)
    ∷ (codes "workers", natural t.workers) ∷ []

abbrev pub times_json : Timed → Numbers → Data
times_json t c = object_of (times_members t c)

-- for a run that ended without faults, the object of the durations on up to this many workers and of the
-- cost; for any other that of its outcome
pub data ShowsTimes (workers : ℕ) (code : Program) (o : Outcome) (c : Numbers) (text told : List ℕ) (status : ℕ)
    : Type 0 where
  timed : status_of o ≡ 0 → (t : Timed) → AreAllOfFive workers t → told ≡ line (times_json t c) → status ≡ 0
      → ShowsTimes workers code o c text told status
  not_ended : status_of o ≢ 0 → TellsOutcome code.arrays o text told status
      → ShowsTimes workers code o c text told status

-- `bench --format json`: the program has no race; how long its runs took, on the given input and under the
-- given budget
pub record ObjectOfTimes (s : Settings) (held : Held) (text told : List ℕ) (status : ℕ) : Type 0 where
  pub run : IsExplored s held text
  pub tells : ShowsTimes s.spread.workers run.code (outcome run.code run.input s.budget)
      (cost_of (tally_of run.code run.input s.budget)) text told status
