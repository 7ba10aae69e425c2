-- Programs whose runs are timed.
use Rattle.std.specs.Prelude.{ℕ, ◌≡◌, List, MatchResult, Option, Result}
use Rattle.commands.specs.Answers.{Done, Explains, Wrote}
use Rattle.command_line.specs.Requests.{Settings}
use Rattle.command_line.specs.declared.request.Command.TheVariants.{Run}
use Rattle.files.specs.Held.{Held}
use Rattle.failures.specs.declared.failure.Failure.{Failure}
use Rattle.json_answers.specs.Failing.{FailedAsObject, TellsFailure}
use Rattle.test_and_bench.specs.Times.{AnswersTimes}
use Rattle.test_and_bench.specs.TimesObject.{ObjectOfTimes}

-- the runs of a text's program were timed, or there is a reason why it isn't run; files are unchanged
pub record TimesRuns (s : Settings) (text : List ℕ) (held later : Held)
    (old new : Option (List ℕ)) (r : Result ℕ Failure) : Type 0 where
  pub done : Done (AnswersTimes s held text) (Explains Run s held text) old new r
  pub keeps : later ≡ held

-- the object of the durations was written; or there is a reason why there is none, and its object was written;
-- files are unchanged
pub record TellsTimes (file : List ℕ) (s : Settings) (text : List ℕ) (held later : Held)
    (old new : Option (List ℕ)) (r : Result ℕ Failure) : Type 0 where
  pub done : MatchResult r (Wrote (ObjectOfTimes s held text) old new)
      (FailedAsObject (ObjectOfTimes s held text) (Explains Run s held text) (TellsFailure file text) old new)
  pub keeps : later ≡ held
