-- What the program does with the files that its arguments name, and how it reports that.
use Rattle.std.specs.Prelude.{ℕ, ◌≡◌, List, [], ◌++◌, Option, Result, Ok, Err, codes, IfOk, IfErr}
use Rattle.std.specs.Prelude.{false}
use Rattle.std.specs.String.{string_bytes}
use Rattle.std.specs.Io.KnownBytes.{Keeps}
use Rattle.commands.specs.Answers.{Answer, Answers, Done, Explains}
use Rattle.commands.specs.Rewriting.{AnswersRewrite, ExplainsRewrite, LeavesRewritten}
use Rattle.viewing.specs.Files.{WritesTo}
use Rattle.viewing.specs.Views.{AnswersSchedules, AnswersTrace, ExplainsSchedules, ExplainsTrace, IsDrawn}
use Rattle.viewing.specs.Views.{IsInFormatTwo, IsPageOf, IsSchedulesPage, picture_name}
use Rattle.printing.specs.Appending.{AppendsBeginning}
use Rattle.failures.specs.FailureStatus.{failure_status}
use Rattle.files.specs.Held.{Held}
use Rattle.failures.specs.Messages.{failure_text}
use Rattle.command_line.specs.Requests.{Settings}
use Rattle.command_line.specs.declared.request.Action.{Action}
use Rattle.command_line.specs.declared.request.Action.TheVariants.{Answer as AnswerBy, Rewrite}
use Rattle.command_line.specs.declared.request.Command.{Command}
use Rattle.command_line.specs.declared.request.Command.TheVariants.{Run, Serial, Check, Listing, Pairs}
use Rattle.command_line.specs.declared.request.Command.TheVariants.{Meetings, Explore, Labels, Places, Format}
use Rattle.command_line.specs.declared.request.Command.TheVariants.{CheckFormat, View, Summary, Draw, Chrome}
use Rattle.command_line.specs.declared.request.Command.TheVariants.{Page, Schedules, Upgrade}
use Rattle.command_line.specs.declared.request.Command.TheVariants.{Cost, CostByLabel, CostByProcedure}
use Rattle.command_line.specs.declared.request.Command.TheVariants.{PairsByLine, ViewByLine, SummaryByLine}
use Rattle.failures.specs.declared.failure.Failure.{Failure}
use Rattle.failures.specs.declared.failure.Failure.TheVariants.{CannotWriteOutput}
use Rattle.driver.specs.More.{may_follow}
use Rattle.driver.specs.Traced.{TracesRun}
use Rattle.driver.specs.declared.answered.Answered.{Answered}
use Rattle.driver.specs.declared.more.More.{More}
use Rattle.driver.specs.declared.refusal.Refusal.{Refusal}

-- the text written, with its status, answers the command for a program's text, or for a trace of its run
abbrev pub AnswersAny : Command → Settings → Held → (text : List ℕ) → Answer
AnswersAny View s held text = AnswersTrace View s held text
AnswersAny ViewByLine s held text = AnswersTrace ViewByLine s held text
AnswersAny Summary s held text = AnswersTrace Summary s held text
AnswersAny SummaryByLine s held text = AnswersTrace SummaryByLine s held text
AnswersAny Draw s held text = AnswersTrace Draw s held text
AnswersAny Chrome s held text = AnswersTrace Chrome s held text
AnswersAny Page s held text = AnswersTrace Page s held text
AnswersAny Schedules s held text = AnswersSchedules s held text
AnswersAny Upgrade s held text = AnswersTrace Upgrade s held text
AnswersAny c s held text = Answers c s held text

-- a failure is one of this command
abbrev pub ExplainsAny : Command → Settings → Held → (text : List ℕ) → Failure → Type 0
ExplainsAny View s held text = ExplainsTrace View s held text
ExplainsAny ViewByLine s held text = ExplainsTrace ViewByLine s held text
ExplainsAny Summary s held text = ExplainsTrace Summary s held text
ExplainsAny SummaryByLine s held text = ExplainsTrace SummaryByLine s held text
ExplainsAny Draw s held text = ExplainsTrace Draw s held text
ExplainsAny Chrome s held text = ExplainsTrace Chrome s held text
ExplainsAny Page s held text = ExplainsTrace Page s held text
ExplainsAny Schedules s held text = ExplainsSchedules s held text
ExplainsAny Upgrade s held text = ExplainsTrace Upgrade s held text
ExplainsAny c s held text = Explains c s held text

-- the contents of files after a command: the trace of a run in the file that was named for it, a picture in
-- its file; all other contents are unchanged
abbrev pub Leaves : Command → Settings → (text : List ℕ) → (held later : Held) → Result ℕ Failure → Type 0
Leaves Run s text held later r = TracesRun s text held later r
Leaves Draw s text held later r = WritesTo (picture_name s) (IsDrawn s held text) held later r
Leaves Chrome s text held later r = WritesTo (picture_name s) (IsDrawn s held text) held later r
Leaves Upgrade s text held later r = WritesTo (picture_name s) (IsInFormatTwo s held text) held later r
Leaves Page s text held later r = ⊥
Leaves Schedules s text held later r = ⊥
Leaves Serial s text held later r = later ≡ held
Leaves Check s text held later r = later ≡ held
Leaves Listing s text held later r = later ≡ held
Leaves Pairs s text held later r = later ≡ held
Leaves Meetings s text held later r = later ≡ held
Leaves PairsByLine s text held later r = later ≡ held
Leaves Explore s text held later r = later ≡ held
Leaves Labels s text held later r = later ≡ held
Leaves Places s text held later r = later ≡ held
Leaves Format s text held later r = later ≡ held
Leaves CheckFormat s text held later r = later ≡ held
Leaves Cost s text held later r = later ≡ held
Leaves CostByLabel s text held later r = later ≡ held
Leaves CostByProcedure s text held later r = later ≡ held
Leaves View s text held later r = later ≡ held
Leaves ViewByLine s text held later r = later ≡ held
Leaves Summary s text held later r = later ≡ held
Leaves SummaryByLine s text held later r = later ≡ held

-- the same; a page names the program's file too
abbrev pub LeavesBy : Command → (file : List ℕ) → Settings → (text : List ℕ) → (held later : Held)
    → Result ℕ Failure
    → Type 0
LeavesBy Page file s text held later r = WritesTo (picture_name s) (IsPageOf file s held text) held later r
LeavesBy Schedules file s text held later r =
    WritesTo (picture_name s) (IsSchedulesPage file s held text) held later r
LeavesBy c file s text held later r = Leaves c s text held later r

-- ---- what is done with a file

-- the text written, with its status, answers the action for the text of a program: that of a command, or
-- nothing if the text is formatted in its file
abbrev pub AnswersTo : Action → Settings → Held → (text : List ℕ) → Answer
AnswersTo (AnswerBy c) s held text = AnswersAny c s held text
AnswersTo Rewrite s held text = AnswersRewrite text

-- a failure is one of this action
abbrev pub ExplainsTo : Action → (file : List ℕ) → Settings → Held → (text : List ℕ) → Failure → Type 0
ExplainsTo (AnswerBy c) file s held text = ExplainsAny c s held text
ExplainsTo Rewrite file s held text = ExplainsRewrite file text

-- the contents of files after it
abbrev pub LeavesTo : Action → (file : List ℕ) → Settings → (text : List ℕ) → (held later : Held)
    → Result ℕ Failure
    → Type 0
LeavesTo (AnswerBy c) file s text held later r = LeavesBy c file s text held later r
LeavesTo Rewrite file s text held later r = LeavesRewritten file text held later r

-- the request was carried out, and the contents of files are right
pub record Performs (x : Action) (file : List ℕ) (s : Settings) (text : List ℕ) (held later : Held)
    (old new : Option (List ℕ)) (r : Result ℕ Failure) : Type 0 where
  pub done : Done (AnswersTo x s held text) (ExplainsTo x file s held text) old new r
  pub leaves : LeavesTo x file s text held later r

-- the line of a failure was appended as far as it was accepted; an explanation follows if there should be one
pub record IsTold (m : More) (old new : Option (List ℕ)) (f : Failure) : Type 0 where
  pub more : List ℕ
  pub bare : m.explains ≡ false → more ≡ []
  pub told : AppendsBeginning old new ((failure_text f ++ codes "\n") ++ more)

-- nothing is written after an answer, unless something may follow: then it was appended, as far as it was
-- accepted
pub record IsFollowed (m : More) (answered : ℕ) (old new : Option (List ℕ)) : Type 0 where
  pub more : List ℕ
  pub bare : may_follow m answered ≡ false → more ≡ []
  pub told : AppendsBeginning old new more

-- the status of an answer; or that of a failure, which is reported
abbrev pub Reports : More → (old new : Option (List ℕ)) → Result ℕ Failure → (status : ℕ)
    → Type 0
Reports m old new (Ok answered) status = (status ≡ answered) × IsFollowed m answered old new
Reports m old new (Err f) status = (status ≡ failure_status f) × IsTold m old new f

-- a mistake in the arguments was reported with status 1: a text was appended to the error output as far as
-- it was accepted, and the other output is unchanged
pub record TellsMistake (old new err_old err_new : Option (List ℕ)) (status : ℕ) : Type 0 where
  pub text : List ℕ
  pub told : AppendsBeginning err_old err_new text
  pub silent : new ≡ old
  pub refused : status ≡ 1

-- a status, or a refusal's failure, without its explanation
abbrev pub in_short : Result Answered Refusal → Result ℕ Failure
in_short (Ok answered) = Ok answered.status
in_short (Err refusal) = Err refusal.failure

-- after an answer the writer was flushed, or failed; after a failure it is unchanged
abbrev pub IsHandedOn : (done : Result ℕ Failure) → (old new : Option (List ℕ)) → Result ℕ Failure → Type 0
IsHandedOn (Ok status) old new r =
    Keeps old new × (IfOk r (λ n. n ≡ status) × IfErr r (λ f. f ≡ CannotWriteOutput))
IsHandedOn (Err f) old new r = (new ≡ old) × (r ≡ Err f)

-- a refusal is explained only if it should be, and something follows an answer only if it may
pub record IsSaid (m : More) (r : Result Answered Refusal) : Type 0 where
  pub bare : IfErr r (λ refusal. m.explains ≡ false → string_bytes refusal.more ≡ [])
  pub quiet : IfOk r (λ answered. may_follow m answered.status ≡ false → string_bytes answered.more ≡ [])
