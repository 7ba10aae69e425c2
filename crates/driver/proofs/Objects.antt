-- From a file and a command to the object that the program wrote.
use Rattle.std.proofs.Common.{◌≡◌, ℕ, List, Option, Some, None, Result, Ok, Err, IfOk, IfErr, sym, subst}
use Rattle.std.specs.Prelude.{IsErrAnd}
use Rattle.std.specs.declared.alloc.AllocError.{AllocError}
use Rattle.std.specs.String.{string_bytes}
use Rattle.command_line.specs.Requests.{Settings}
use Rattle.command_line.specs.declared.request.Command.{Command}
use Rattle.command_line.specs.declared.request.Command.TheVariants.{Check, Labels, Run, Serial}
use Rattle.files.specs.Held.{Held}
use Rattle.failures.specs.declared.failure.Failure.{Failure}
use Rattle.failures.specs.declared.failure.Failure.TheVariants.{NoMemory}
use Rattle.std.specs.Prelude.{◌≢◌}
use Rattle.commands.specs.Answers.{IsExplored}
use Rattle.commands.proofs.Answering.{other_failure}
use Rattle.json_answers.specs.Inspected.{Describes, ObjectOfInspect, answered, members_text, refused, status_of_both}
use Rattle.json_answers.specs.Objects.{FailsEarly, ObjectOf}
use Rattle.json_answers.specs.Failing.{IsToldAsObject, TellsFailure}
use Rattle.json_answers.specs.declared.object_line.ObjectLine.{ObjectLine}
use Rattle.json_answers.proofs.Written.{object_refused}
use Rattle.command_words.specs.Orders.{command_of}
use Rattle.command_words.specs.declared.order.Subject.{Subject}
pub use Rattle.test_and_bench.proofs.Objects.{same_outcome}
use Rattle.command_words.specs.declared.order.Subject.TheVariants.{Summary as SummaryTold}
use Rattle.command_line.specs.declared.request.Command.TheVariants.{Summary}
use Rattle.failures.specs.declared.failure.Failure.TheVariants.{CannotWriteOutput}
use Rattle.viewing.proofs.Viewing.{explained, other}
use Rattle.viewing.specs.Files.{Wrote, WritesTo}
use Rattle.driver.specs.Acts.{ExplainsAny, Leaves}
use Rattle.driver.specs.Objects.{FailsEarlyAny, IsDescribed, ObjectOfAny, TellsObject, status_in}
use Rattle.driver.specs.Traced.{TellsNoRun, WritesTrace}
use Rattle.driver.proofs.Leaving.{no_run_explained, no_run_other}

-- a failure before anything is written is one of the command
failed_early : (x : Subject) (s : Settings) (held : Held) (text : List ℕ) (f : Failure) → FailsEarlyAny (command_of x) s held text f
    → ExplainsAny (command_of x) s held text f × (f ≢ CannotWriteOutput)
failed_early SummaryTold s held text f fails =
    (explained s held text Summary f fails, other_failure f (other s held text f fails))
failed_early _ s held text f fails = (fails.why, fails.early)

module _ (x : Subject) (file : List ℕ) (s : Settings) (text : List ℕ) (held later : Held) (old new : Option (List ℕ)) where
  -- a failure whose object was written
  pub refusal_told : (f : Failure) → FailsEarlyAny (command_of x) s held text f → IsToldAsObject (TellsFailure file text f) old new
      → Leaves (command_of x) s text held later (Err f) → TellsObject x file s text held later old new (Err f)
  refusal_told f fails is_told leaves =
      let why = failed_early x s held text f fails in
      record {
        done = object_refused (ObjectOfAny (command_of x) s held text) (ExplainsAny (command_of x) s held text)
            (TellsFailure file text) old new f why.0 why.1 is_told;
        leaves = leaves;
      }

-- the object of the same subject
pub object_so : (x y : Subject) → x ≡ y → (s : Settings) (held : Held) (text : List ℕ) (r : Result ObjectLine Failure)
    → IfOk r (λ t. ObjectOfAny (command_of y) s held text (string_bytes t.line) t.status)
    → IfOk r (λ t. ObjectOfAny (command_of x) s held text (string_bytes t.line) t.status)
object_so x y same s held text r object =
    subst (λ (z : Subject). IfOk r (λ t. ObjectOfAny (command_of z) s held text (string_bytes t.line) t.status)) (sym same) object

-- why there is none for the same subject
pub fails_so : (x y : Subject) → x ≡ y → (s : Settings) (held : Held) (text : List ℕ) (r : Result ObjectLine Failure)
    → IfErr r (FailsEarlyAny (command_of y) s held text) → IfErr r (FailsEarlyAny (command_of x) s held text)
fails_so x y same s held text r fails =
    subst (λ (z : Subject). IfErr r (FailsEarlyAny (command_of z) s held text)) (sym same) fails

-- a failure that is passed on is one of the status
pub status_err : (r : Result ObjectLine Failure) (Q : Failure → Type 0) → IsErrAnd r Q → IsErrAnd (status_in r) Q
status_err (Ok t) Q is = is
status_err (Err f) Q is = is

-- a run without an outcome
pub no_run_early : (s : Settings) (held : Held) (text : List ℕ) → IsExplored s held text → (f : Failure) → TellsNoRun s f
    → FailsEarly Run s held text f
no_run_early s held text run f why =
    record { why = no_run_explained s held text run f why; early = other_failure f (no_run_other s f why) }

-- ---- the trace of a run with an object

module _ (T : Type 0) (P Q : (bytes : List ℕ) → Type 0) (held later : Held) (so : (bytes : List ℕ) → P bytes → Q bytes) where
  wrote_so : (name : List ℕ) → Wrote name P held later → Wrote name Q held later
  wrote_so name w = record { bytes = w.bytes; right = so w.bytes w.right; given = w.given; others = w.others }

  written_behind : (name : List ℕ) (r : Result ObjectLine Failure) → Wrote name P held later → IfErr r (λ f. f ≡ NoMemory)
      → WritesTo name Q held later (status_in r)
  written_behind name (Ok t) w only = wrote_so name w
  written_behind name (Err f) w only =
      subst (λ (g : Failure). WritesTo {T = ℕ} name Q held later (Err g)) (sym only) w.others

  -- it is the same whether or not there was memory for the object
  pub traced_behind : (file : Option (List ℕ)) (x : T) (r : Result ObjectLine Failure) → WritesTrace file P held later (Ok x)
      → IfErr r (λ f. f ≡ NoMemory) → WritesTrace file Q held later (status_in r)
  traced_behind None x r w only = w
  traced_behind (Some name) x r w only = written_behind name r w only

-- ---- several answers

-- what a command writes as one object
pub describes : (c : Command) (file : List ℕ) (s : Settings) (held : Held) (text : List ℕ) (done : Result ObjectLine Failure)
    (t : ObjectLine) → IfOk done (λ o. ObjectOf c s held text (string_bytes o.line) o.status)
    → IfErr done (FailsEarly c s held text) → IsDescribed file text done t
    → Describes c file s held text (string_bytes t.line) t.status
describes c file s held text (Ok o) t object why is =
    subst (λ (u : ObjectLine). Describes c file s held text (string_bytes u.line) u.status) (sym is) (answered object)
describes c file s held text (Err f) t object why is = refused f why is.0 is.1

-- an object with three answers as members
pub inspect_object : (file : List ℕ) (s : Settings) (held : Held) (text : List ℕ) (check list serial : ObjectLine)
    → Describes Check file s held text (string_bytes check.line) check.status
    → Describes Labels file s held text (string_bytes list.line) list.status
    → Describes Serial file s held text (string_bytes serial.line) serial.status → (r : Result ObjectLine AllocError)
    → IfOk r (λ t. string_bytes t.line ≡ members_text (string_bytes check.line) (string_bytes list.line) (string_bytes serial.line) t.status)
    → IfOk r (λ t. t.status ≡ status_of_both check.status serial.status)
    → IfOk r (λ t. ObjectOfInspect file s held text (string_bytes t.line) t.status)
inspect_object file s held text check list serial of_check of_list of_serial (Err e) line status = tt
inspect_object file s held text check list serial of_check of_list of_serial (Ok t) line status = record {
  check_told = string_bytes check.line;
  check_status = check.status;
  check = of_check;
  list_told = string_bytes list.line;
  list_status = list.status;
  list = of_list;
  serial_told = string_bytes serial.line;
  serial_status = serial.status;
  serial = of_serial;
  told_is = line;
  status_is = status;
}
