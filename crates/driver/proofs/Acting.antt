-- From a file and a command to what the program did.
use Rattle.std.proofs.Common.{◌++◌, codes}
use Rattle.std.specs.Prelude.{false}
use Rattle.std.specs.String.{string_bytes}
use Rattle.failures.specs.FailureStatus.{failure_status}
use Rattle.failures.specs.Messages.{failure_text}
use Rattle.driver.specs.More.{may_follow}
use Rattle.driver.specs.declared.more.More.{More}
use Rattle.driver.specs.declared.answered.Answered.{Answered}
use Rattle.driver.specs.declared.refusal.Refusal.{Refusal}
use Rattle.std.proofs.Common.{◌≡◌, ℕ, List, [], Option, Result, Ok, Err, IfOk, IfErr, sym, subst}
use Rattle.std.proofs.lemmas.List.{append-nil}
use Rattle.std.proofs.KnownBytes.{Appends-kept}
use Rattle.std.specs.Io.KnownBytes.{Keeps}
use Rattle.driver.specs.Acts.{AnswersTo, ExplainsAny, ExplainsTo, IsHandedOn, IsSaid, Leaves, LeavesBy, LeavesTo, Performs}
use Rattle.driver.specs.Acts.{Reports, in_short}
use Rattle.command_line.specs.declared.request.Action.{Action}
use Rattle.command_line.specs.declared.request.Action.TheVariants.{Answer as AnswerBy, Rewrite}
use Rattle.driver.specs.Traced.{IsTraceOfText}
use Rattle.driver.proofs.Leaving.{told_behind}
use Rattle.commands.specs.Answers.{Answer, Done, Wrote}
use Rattle.commands.specs.Rewriting.{LeavesLaidOut, LeavesRewritten}
use Rattle.viewing.specs.Views.{IsDrawn, IsInFormatTwo, IsPageOf, IsSchedulesPage, picture_name}
use Rattle.viewing.proofs.Written.{wrote_anyway}
use Rattle.printing.specs.Appending.{AppendsBeginning}
use Rattle.files.specs.Held.{Held}
use Rattle.command_line.specs.Requests.{Settings}
use Rattle.command_line.specs.declared.request.Command.{Command}
use Rattle.command_line.specs.declared.request.Command.TheVariants.{Run, View, Summary, Draw, Chrome, Page}
use Rattle.command_line.specs.declared.request.Command.TheVariants.{Schedules, Upgrade}
use Rattle.failures.specs.declared.failure.Failure.{Failure}
use Rattle.failures.specs.declared.failure.Failure.TheVariants.{CannotWriteOutput}

-- the answer is flushed: it is complete, or a writer that fails has a prefix of it
answered_on : (Is : Answer) (Why : Failure → Type 0) → Why CannotWriteOutput → (old mid new : Option (List ℕ)) (status : ℕ)
    (r : Result ℕ Failure) → Wrote Is old mid status → Keeps mid new → IfOk r (λ n. n ≡ status)
    → IfErr r (λ f. f ≡ CannotWriteOutput) → Done Is Why old new r
answered_on Is Why why old mid new status (Ok n) wrote keeps is _ =
    subst (λ m. Wrote Is old new m) (sym is) (record {
      told = wrote.told;
      answers = wrote.answers;
      written = Appends-kept old mid new wrote.told wrote.written keeps;
    })
answered_on Is Why why old mid new status (Err f) wrote keeps _ is = record {
  why = subst Why (sym is) why;
  silent = λ other. absurd (other is);
  begun = λ _. record {
    told = wrote.told;
    status = status;
    answers = wrote.answers;
    begun = record {
      begun = wrote.told;
      rest = [];
      parts = sym (append-nil wrote.told);
      appended = Appends-kept old mid new wrote.told wrote.written keeps;
    };
  };
}

-- every command may fail because of its output
may_fail : (c : Command) (s : Settings) (held : Held) (text : List ℕ) → ExplainsAny c s held text CannotWriteOutput
may_fail View s held text = tt
may_fail Summary s held text = tt
may_fail Draw s held text = tt
may_fail Chrome s held text = tt
may_fail Page s held text = tt
may_fail Schedules s held text = tt
may_fail Upgrade s held text = tt
may_fail _ s held text = tt

-- files are unchanged then
pub leaves_on : (c : Command) (s : Settings) (text : List ℕ) (held later : Held) (status : ℕ) (r : Result ℕ Failure)
    → IfErr r (λ f. f ≡ CannotWriteOutput) → Leaves c s text held later (Ok status) → Leaves c s text held later r
leaves_on Run s text held later status r only w =
    told_behind ℕ ℕ (IsTraceOfText s held text) (IsTraceOfText s held text) held later (λ bytes is. is) s.trace status r w only
leaves_on Draw s text held later status r only w = wrote_anyway (picture_name s) (IsDrawn s held text) held later r w only
leaves_on Chrome s text held later status r only w = wrote_anyway (picture_name s) (IsDrawn s held text) held later r w only
leaves_on Upgrade s text held later status r only w = wrote_anyway (picture_name s) (IsInFormatTwo s held text) held later r w only
leaves_on _ s text held later status r only w = w

-- with the name of the program's file
leaves_by : (c : Command) (file : List ℕ) (s : Settings) (text : List ℕ) (held later : Held) (status : ℕ) (r : Result ℕ Failure)
    → IfErr r (λ f. f ≡ CannotWriteOutput) → LeavesBy c file s text held later (Ok status) → LeavesBy c file s text held later r
leaves_by Page file s text held later status r only w =
    wrote_anyway (picture_name s) (IsPageOf file s held text) held later r w only
leaves_by Schedules file s text held later status r only w =
    wrote_anyway (picture_name s) (IsSchedulesPage file s held text) held later r w only
leaves_by c file s text held later status r only w = leaves_on c s text held later status r only w

-- nor is there more than was written
rewritten_on : (file text : List ℕ) (held later : Held) (r : Result ℕ Failure) → IfErr r (λ f. f ≡ CannotWriteOutput)
    → LeavesLaidOut file text held later → LeavesRewritten file text held later r
rewritten_on file text held later (Ok n) only leaves = leaves
rewritten_on file text held later (Err f) only leaves =
    subst (λ (g : Failure). LeavesRewritten file text held later (Err g)) (sym only) leaves

may_fail_to : (x : Action) (file : List ℕ) (s : Settings) (held : Held) (text : List ℕ)
    → ExplainsTo x file s held text CannotWriteOutput
may_fail_to (AnswerBy c) file s held text = may_fail c s held text
may_fail_to Rewrite file s held text = tt

leaves_to : (x : Action) (file : List ℕ) (s : Settings) (text : List ℕ) (held later : Held) (status : ℕ)
    (r : Result ℕ Failure) → IfErr r (λ f. f ≡ CannotWriteOutput) → LeavesTo x file s text held later (Ok status)
    → LeavesTo x file s text held later r
leaves_to (AnswerBy c) file s text held later status r only w = leaves_by c file s text held later status r only w
leaves_to Rewrite file s text held later status r only w = rewritten_on file text held later r only w

-- what was done is flushed
pub done_on : (Is : Answer) (Why : Failure → Type 0) → Why CannotWriteOutput → (old mid new : Option (List ℕ))
    (done r : Result ℕ Failure) → Done Is Why old mid done → IsHandedOn done mid new r → Done Is Why old new r
done_on Is Why why old mid new (Ok status) r did on = answered_on Is Why why old mid new status r did on.0 on.1.0 on.1.1
done_on Is Why why old mid new (Err f) r did on =
    subst (Done Is Why old new) (sym on.1) (subst (λ (b : Option (List ℕ)). Done Is Why old b (Err f)) (sym on.0) did)

left_on : (x : Action) (file : List ℕ) (s : Settings) (text : List ℕ) (held later : Held) (mid new : Option (List ℕ))
    (done r : Result ℕ Failure) → LeavesTo x file s text held later done → IsHandedOn done mid new r
    → LeavesTo x file s text held later r
left_on x file s text held later mid new (Ok status) r leaves on =
    leaves_to x file s text held later status r on.1.1 leaves
left_on x file s text held later mid new (Err f) r leaves on =
    subst (LeavesTo x file s text held later) (sym on.1) leaves

pub handed_over : (x : Action) (file : List ℕ) (s : Settings) (text : List ℕ) (held later : Held)
    (old mid new : Option (List ℕ)) (done r : Result ℕ Failure) → Performs x file s text held later old mid done
    → IsHandedOn done mid new r → Performs x file s text held later old new r
handed_over x file s text held later old mid new done r performs on = record {
  done = done_on (AnswersTo x s held text) (ExplainsTo x file s held text) (may_fail_to x file s held text) old mid new done r
      performs.done on;
  leaves = left_on x file s text held later mid new done r performs.leaves on;
}

-- a refusal that was reported
pub reported : (m : More) (old new : Option (List ℕ)) (r : Refusal) (status : ℕ)
    → (m.explains ≡ false → string_bytes r.more ≡ []) → status ≡ failure_status r.failure
    → AppendsBeginning old new ((failure_text r.failure ++ codes "\n") ++ string_bytes r.more)
    → Reports m old new (Err r.failure) status
reported m old new r status bare is told = (is, record { more = string_bytes r.more; bare = bare; told = told })

-- an answer, and what follows it
pub followed : (m : More) (old new : Option (List ℕ)) (a : Answered) (status : ℕ)
    → (may_follow m a.status ≡ false → string_bytes a.more ≡ []) → status ≡ a.status
    → AppendsBeginning old new (string_bytes a.more) → Reports m old new (Ok a.status) status
followed m old new a status bare is told =
    (is, record { more = string_bytes a.more; bare = bare; told = told })

-- what is reported for a result is reported for an equal one
pub reported_by : (m : More) (old new : Option (List ℕ)) (r s : Result Answered Refusal) (status : ℕ) → r ≡ s
    → Reports m old new (in_short s) status → Reports m old new (in_short r) status
reported_by m old new r s status same reports =
    subst (λ (t : Result Answered Refusal). Reports m old new (in_short t) status) (sym same) reports

-- an answer with this status is said as one with an equal status
pub said_answer : (m : More) (a : Answered) (status : ℕ) → a.status ≡ status
    → (may_follow m status ≡ false → string_bytes a.more ≡ []) → IsSaid m (Ok a)
said_answer m a status is bare = record {
  bare = tt;
  quiet = λ none. bare (subst (λ (n : ℕ). may_follow m n ≡ false) is none);
}
