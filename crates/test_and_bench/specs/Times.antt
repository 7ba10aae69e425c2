-- How long runs of a program take, and what is printed about that.
use Rattle.std.specs.Prelude.{ℕ, ◌≡◌, ◌≢◌, ◌<◌, ◌≤◌, List, [], ◌++◌, length, false, Option, None}
use Rattle.std.specs.Prelude.{Some, Result}
use Rattle.std.specs.Prelude.{codes, unwrap_or}
use Rattle.std.specs.Fmt.{decimal}
use Rattle.types.specs.Code.{Program}
use Rattle.types.specs.Outcome.{Outcome, outcome}
use Rattle.cost.specs.Costs.{cost_of, tally_of}
use Rattle.cost.specs.Text.{grain_lines}
use Rattle.cost.specs.declared.cost.Cost.{Cost as Numbers}
use Rattle.trace_numbers.specs.Text.{line, parallelism}
use Rattle.printing.specs.OutcomeText.{status_of}
use Rattle.files.specs.Held.{Held}
use Rattle.failures.specs.declared.failure.Failure.{Failure}
use Rattle.command_line.specs.Requests.{Settings}
use Rattle.command_line.specs.declared.request.Command.TheVariants.{Run}
use Rattle.commands.specs.Answers.{Done, Explains, IsExplored, Shows}
use Rattle.test_and_bench.specs.Five.{AreOf}
use Rattle.test_and_bench.specs.declared.times.Times.{Times}
use Rattle.test_and_bench.specs.declared.times.Timed.{Timed}

-- these are the minimum and the median of some five durations
pub record AreOfFive (t : Times) : Type 0 where
  pub times : List ℕ
  pub five : length times ≡ 5
  pub are : AreOf times t.least t.median

-- it is true for runs that are made exactly if there are more workers than others
abbrev pub IsMadeAbove : (others workers : ℕ) → Option Times → Type 0
IsMadeAbove others workers None = workers ≤ others
IsMadeAbove others workers (Some t) = (others < workers) × AreOfFive t

-- it is true for all runs on up to this many workers
pub record AreAllOfFive (workers : ℕ) (t : Timed) : Type 0 where
  pub workers_are : t.workers ≡ workers
  pub serial : AreOfFive t.serial
  pub on_one : AreOfFive t.on_one
  pub on_two : IsMadeAbove 2 workers t.on_two
  pub on_all : IsMadeAbove 1 workers t.on_all

-- the line of a run: `serial: min 803 us, median 820 us`
abbrev pub times_line : (run : List ℕ) → Times → List ℕ
times_line run t =
    run ++ (codes ": min " ++ (decimal t.least ++ (codes " us, median "
    ++ (decimal t.median ++ codes " us\n"))))

-- the line of runs that are made
abbrev pub times_line_if : (run : List ℕ) → Option Times → List ℕ
times_line_if run None = []
times_line_if run (Some t) = times_line run t

-- how many times as fast as serially the program runs on all workers, by the medians, and what work and span
-- allow at most
abbrev pub speeds : Timed → Numbers → List ℕ
speeds t c =
    line (codes "speed-up") (parallelism t.serial.median (unwrap_or t.on_all t.on_one).median)
    ++ line (codes "work / span") (parallelism c.work c.span)

-- how many tasks there were, and how many places are copied for them
abbrev pub counts : Numbers → List ℕ
counts c =
    codes "tasks: " ++ (decimal c.tasks ++ (codes "\ncopied places: " ++ (decimal c.copied ++ codes "\n")))

-- a line for each of them, followed by the speed-up, those counts, and how many steps a task takes
abbrev pub times_text : Timed → Numbers → List ℕ
times_text t c =
    times_line (codes "serial") t.serial
    ++ (times_line (codes "run, 1 worker") t.on_one
    ++ (times_line_if (codes "run, 2 workers") t.on_two
    ++ (times_line_if (codes "run, " ++ (decimal t.workers ++ codes " workers")) t.on_all
    ++ (speeds t c ++ (counts c ++ grain_lines c)))))

-- for a run that ended without faults, the durations on up to this many workers and the cost are printed; for
-- any other its outcome
pub data TellsTimes (workers : ℕ) (code : Program) (o : Outcome) (c : Numbers) (told : List ℕ) (status : ℕ)
    : Type 0 where
  timed : status_of o ≡ 0 → (t : Timed) → AreAllOfFive workers t → told ≡ times_text t c → status ≡ 0
      → TellsTimes workers code o c told status
  not_ended : status_of o ≢ 0 → Shows false o code told status → TellsTimes workers code o c told status

-- `bench`: the program has no race; how long its runs took, on the given input and under the given
-- budget
pub record AnswersTimes (s : Settings) (held : Held) (text told : List ℕ) (status : ℕ) : Type 0 where
  pub run : IsExplored s held text
  pub tells : TellsTimes s.spread.workers run.code (outcome run.code run.input s.budget)
      (cost_of (tally_of run.code run.input s.budget)) told status

-- `bench` was done: its answer was written, or the failure says why the program can't be run
abbrev pub DoesBench : Settings → Held → (text : List ℕ) → (old new : Option (List ℕ)) → Result ℕ Failure
    → Type 0
DoesBench s held text old new r = Done (AnswersTimes s held text) (Explains Run s held text) old new r
