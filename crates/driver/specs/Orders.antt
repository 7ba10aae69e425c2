-- Orders that were carried out, and reported.
use Rattle.std.specs.Prelude.{ℕ, ◌≤◌, Bool, false, List, [], ◌∷◌, ◌++◌, codes, length, Option}
use Rattle.std.specs.Prelude.{Result, Ok, Err}
use Rattle.std.specs.Prelude.{IsErrAnd, ◌≡◌, nat_lt, if◌then◌else◌}
use Rattle.std.specs.Io.KnownBytes.{Keeps}
use Rattle.command_line.specs.Requests.{Asked, Settings, asked_of, usual}
use Rattle.command_line.specs.declared.request.Action.{Action}
use Rattle.command_line.specs.declared.request.Action.TheVariants.{Answer}
use Rattle.command_line.specs.declared.request.Command.TheVariants.{Run}
use Rattle.command_line.specs.declared.request.Telling.{Telling}
use Rattle.files.specs.Held.{Held, HasText, TellsNoProgram}
use Rattle.failures.specs.declared.failure.Failure.{Failure}
use Rattle.printing.specs.Appending.{AppendsBeginning}
use Rattle.printing.specs.Reasons.{escaped}
use Rattle.json_answers.specs.Failing.{IsToldAsObject, TellsFailure}
use Rattle.command_words.specs.Orders.{Order, AsText, AsObject, Times, TimesAsObject, Tests, TestsEach}
use Rattle.command_words.specs.Orders.{TestsAsObject, Each, Walks, Explores, Inspects}
use Rattle.command_words.specs.declared.order.Subject.{Subject}
use Rattle.driver.specs.More.{more_of, nothing_more}
use Rattle.driver.specs.declared.more.More.{More}
use Rattle.driver.specs.Acts.{Performs, Reports}
use Rattle.driver.specs.Objects.{TellsInspected, TellsObject, TellsSchedules}
use Rattle.driver.specs.Trying.{TellsTimes, TimesRuns}
use Rattle.driver.specs.declared.doing.TextOrder.{TextOrder}
use Rattle.driver.specs.declared.doing.TextOrder.TheVariants.{Answering, Describing, Timing, TimingAsObject}
use Rattle.driver.specs.declared.doing.TextOrder.TheVariants.{Exploring, Inspecting, Walking}
use Rattle.driver.specs.declared.loaded.Loaded.{Loaded}
use Rattle.test_and_bench.specs.Folders.{Folders}
use Rattle.test_and_bench.specs.TestsObject.{TellsTests}
use Rattle.test_and_bench.specs.Trials.{DoesTest}

-- this was done with the text of a program: the command was answered, or it was answered as one object, or
-- its runs were timed, with a text or one object; or it was run by events drawn from a seed, with the answer, the
-- failures and the trace of `run`; or one object told about its schedules, or gave several answers
abbrev pub DoesWith : TextOrder → Asked → (text : List ℕ) → (held later : Held) → (old new : Option (List ℕ))
    → Result ℕ Failure → Type 0
DoesWith Answering a text held later old new r = Performs a.action a.file a.settings text held later old new r
DoesWith (Describing x) a text held later old new r =
    TellsObject x a.file a.settings text held later old new r
DoesWith Timing a text held later old new r = TimesRuns a.settings text held later old new r
DoesWith TimingAsObject a text held later old new r = TellsTimes a.file a.settings text held later old new r
DoesWith (Walking seed) a text held later old new r =
    Performs (Answer Run) a.file a.settings text held later old new r
DoesWith (Exploring x) a text held later old new r =
    TellsSchedules x a.file a.settings text held later old new r
DoesWith Inspecting a text held later old new r = TellsInspected a.file a.settings text held later old new r

-- the order for a request and the text of its file
abbrev pub DoesWithLoaded : TextOrder → Loaded → (held later : Held) → (old new : Option (List ℕ))
    → Result ℕ Failure
    → Type 0
DoesWithLoaded d l held later old new r = DoesWith d (asked_of l.request) l.text.now held later old new r

-- why a file has no text of a program was written as one object if that was ordered; else nothing was
abbrev pub TellsUnread : TextOrder → (file : List ℕ) → (old new : Option (List ℕ)) → Failure → Type 0
TellsUnread (Describing x) file old new f = IsToldAsObject (TellsFailure file [] f) old new
TellsUnread Answering file old new f = Keeps old new
TellsUnread Timing file old new f = Keeps old new
TellsUnread TimingAsObject file old new f = IsToldAsObject (TellsFailure file [] f) old new
TellsUnread (Walking seed) file old new f = Keeps old new
TellsUnread (Exploring x) file old new f = IsToldAsObject (TellsFailure file [] f) old new
TellsUnread Inspecting file old new f = IsToldAsObject (TellsFailure file [] f) old new

-- the failure states why a file has no text of a program, and is reported in this way
pub record HasNone (d : TextOrder) (held : Held) (file : List ℕ) (old new : Option (List ℕ))
    (f : Failure) : Type 0 where
  pub why : TellsNoProgram held file f
  pub told : TellsUnread d file old new f

-- the file has a text of at most 1,048,576 bytes, and this was done with it; or it has none
pub data ReadsAnd (d : TextOrder) (a : Asked) (held later : Held) (old new : Option (List ℕ))
    (r : Result ℕ Failure) : Type 0 where
  on_text : (text : List ℕ) → HasText held a.file text → length text ≤ 1048576
      → DoesWith d a text held later old new r → ReadsAnd d a held later old new r
  without_text : IsErrAnd r (HasNone d held a.file old new) → later ≡ held → ReadsAnd d a held later old new r

-- this was done, with a result that was reported
pub record ActsBy (Does : Result ℕ Failure → Type 0) (m : More)
    (err_old err_new : Option (List ℕ)) (status : ℕ) : Type 0 where
  pub result : Result ℕ Failure
  pub does : Does result
  pub reports : Reports m err_old err_new result status

-- this was done with the file of a program, and reported: with explanations and warnings on request, and by
-- default if the standard error is a terminal
abbrev pub ActsWith : (at_terminal : Bool) → TextOrder → (a : Asked) → (held later : Held) → (old new : Option (List ℕ))
    → (err_old err_new : Option (List ℕ)) → (status : ℕ) → Type 0
ActsWith at_terminal d a held later old new err_old err_new status =
    ActsBy (ReadsAnd d a held later old new) (more_of a.action a.telling at_terminal) err_old err_new status

-- the request was carried out, and reported
abbrev pub Acts : (at_terminal : Bool) → (a : Asked) → (held later : Held) → (old new : Option (List ℕ))
    → (err_old err_new : Option (List ℕ)) → (status : ℕ) → Type 0
Acts at_terminal a held later old new err_old err_new status =
    ActsWith at_terminal Answering a held later old new err_old err_new status

-- the request was answered as one object, and reported
abbrev pub TellsAs : (at_terminal : Bool) → (x : Subject) → (a : Asked) → (held later : Held) → (old new : Option (List ℕ))
    → (err_old err_new : Option (List ℕ)) → (status : ℕ) → Type 0
TellsAs at_terminal x a held later old new err_old err_new status =
    ActsWith at_terminal (Describing x) a held later old new err_old err_new status

-- the runs of a program were timed, and that was reported
abbrev pub TimesAs : (at_terminal : Bool) → (a : Asked) → (held later : Held) → (old new : Option (List ℕ))
    → (err_old err_new : Option (List ℕ)) → (status : ℕ) → Type 0
TimesAs at_terminal a held later old new err_old err_new status =
    ActsWith at_terminal Timing a held later old new err_old err_new status

-- the runs of a program were timed, the durations were written as one object, and that was reported
abbrev pub TellsTimesAs : (at_terminal : Bool) → (a : Asked) → (held later : Held) → (old new : Option (List ℕ))
    → (err_old err_new : Option (List ℕ)) → (status : ℕ) → Type 0
TellsTimesAs at_terminal a held later old new err_old err_new status =
    ActsWith at_terminal TimingAsObject a held later old new err_old err_new status

-- the programs of these names were tested under these settings, and that was reported
abbrev pub TestsAll : (names : List (List ℕ)) → (writes : Bool) → Settings → Folders → (held later : Held)
    → (old new : Option (List ℕ)) → (err_old err_new : Option (List ℕ)) → (status : ℕ) → Type 0
TestsAll names writes s named held later old new err_old err_new status =
    ActsBy (DoesTest named held names writes s later old new) nothing_more err_old err_new status

-- the program with the name of the request, or those of the folder with this name
abbrev pub TestsAs : (a : Asked) → Folders → (held later : Held) → (old new : Option (List ℕ))
    → (err_old err_new : Option (List ℕ)) → (status : ℕ) → Type 0
TestsAs a named held later old new err_old err_new status =
    TestsAll (a.file ∷ []) false a.settings named held later old new err_old err_new status

-- the same, with the results as one object
abbrev pub TellsTestsAs : (names : List (List ℕ)) → (writes : Bool) → Settings → Folders → (held later : Held)
    → (old new : Option (List ℕ)) → (err_old err_new : Option (List ℕ)) → (status : ℕ) → Type 0
TellsTestsAs names writes s named held later old new err_old err_new status =
    ActsBy (TellsTests named held names writes s later old new) nothing_more err_old err_new status

-- several answers for a program were written as one object, and that was reported
abbrev pub InspectsAs : (a : Asked) → (held later : Held) → (old new : Option (List ℕ))
    → (err_old err_new : Option (List ℕ)) → (status : ℕ) → Type 0
InspectsAs a held later old new err_old err_new status =
    ActsBy (ReadsAnd Inspecting a held later old new) nothing_more err_old err_new status

-- ---- several files, one after the other

-- the request for one of the files, under the default settings
abbrev pub asked_for : Action → Telling → (file : List ℕ) → Asked
asked_for x t file = record { action = x; file = file; settings = usual; telling = t }

-- a failure's message comes after the name of its file, as far as that was accepted
abbrev pub Names : (file : List ℕ) → Result ℕ Failure → (old new : Option (List ℕ)) → Type 0
Names file (Ok status) old new = new ≡ old
Names file (Err f) old new = AppendsBeginning old new (escaped file ++ codes ": ")

-- this was done with one of several files, and reported, with what should follow
pub record ActsOnOne (m : More) (d : TextOrder) (a : Asked) (held later : Held)
    (old new err_old err_new : Option (List ℕ)) (status : ℕ) : Type 0 where
  pub result : Result ℕ Failure
  pub does : ReadsAnd d a held later old new result
  pub named : Option (List ℕ)
  pub names : Names a.file result err_old named
  pub reports : Reports m named err_new result status

-- the larger of two statuses
abbrev pub larger : ℕ → ℕ → ℕ
larger s t = if nat_lt s t then t else s

-- this was done with these files, one after the other; the status is the largest
pub data ActsOnEach (m : More) (x : Action) (t : Telling) (held : Held) (old err_old : Option (List ℕ))
    : (files : List (List ℕ)) → (later : Held) → (new err_new : Option (List ℕ)) → (status : ℕ) → Type 0 where
  none : ActsOnEach m x t held old err_old [] held old err_old 0
  more : (fs : List (List ℕ)) (f : List ℕ) (mid later : Held) (between new err_between err_new : Option (List ℕ))
      (s n : ℕ) → ActsOnEach m x t held old err_old fs mid between err_between s
      → ActsOnOne m Answering (asked_for x t f) mid later between new err_between err_new n
      → ActsOnEach m x t held old err_old (fs ++ f ∷ []) later new err_new (larger s n)

-- an order was carried out
abbrev pub ActsOn : (at_terminal : Bool) → Order → Folders → (held later : Held) → (old new : Option (List ℕ))
    → (err_old err_new : Option (List ℕ)) → (status : ℕ) → Type 0
ActsOn at_terminal (AsText a) named held later old new err_old err_new status =
    Acts at_terminal a held later old new err_old err_new status
ActsOn at_terminal (AsObject x a) named held later old new err_old err_new status =
    TellsAs at_terminal x a held later old new err_old err_new status
ActsOn at_terminal (Times a) named held later old new err_old err_new status =
    TimesAs at_terminal a held later old new err_old err_new status
ActsOn at_terminal (TimesAsObject a) named held later old new err_old err_new status =
    TellsTimesAs at_terminal a held later old new err_old err_new status
ActsOn at_terminal (Tests a) named held later old new err_old err_new status =
    TestsAs a named held later old new err_old err_new status
ActsOn at_terminal (TestsEach writes names s) named held later old new err_old err_new status =
    TestsAll names writes s named held later old new err_old err_new status
ActsOn at_terminal (TestsAsObject writes names s) named held later old new err_old err_new status =
    TellsTestsAs names writes s named held later old new err_old err_new status
ActsOn at_terminal (Each x files t) named held later old new err_old err_new status =
    ActsOnEach (more_of x t at_terminal) x t held old err_old files later new err_new status
ActsOn at_terminal (Walks seed a) named held later old new err_old err_new status =
    ActsWith at_terminal (Walking seed) a held later old new err_old err_new status
ActsOn at_terminal (Explores x a) named held later old new err_old err_new status =
    ActsWith at_terminal (Exploring x) a held later old new err_old err_new status
ActsOn at_terminal (Inspects a) named held later old new err_old err_new status =
    InspectsAs a held later old new err_old err_new status
