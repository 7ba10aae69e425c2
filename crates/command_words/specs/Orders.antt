-- Orders of command lines: to answer for one program, as text or as one object; to time its runs, in the same two
-- ways; to test a program or a folder, or several of both, in the same two ways; to answer for several programs, one
-- after the other; to draw a run of a program; to tell about its schedules; or to give several answers in one object.
use Rattle.std.specs.Prelude.{ℕ, ◌≡◌, Bool, true, false, List, ◌∷◌, Option, None, Some, codes, map}
use Rattle.std.specs.String.{string_bytes}
use Rattle.types.specs.Translation.{budget as budget_of}
use Rattle.command_line.specs.Requests.{Asked, Asks, Settings, asked_of, settings, spread, usual_telling}
use Rattle.command_line.specs.declared.request.Action.{Action}
use Rattle.command_line.specs.declared.request.Action.TheVariants.{Answer, Rewrite}
use Rattle.command_line.specs.declared.request.Command.{Command}
use Rattle.command_line.specs.declared.request.Telling.{Telling}
use Rattle.command_line.specs.declared.request.Command.TheVariants.{Run, Serial, Check, Pairs, Cost}
use Rattle.command_line.specs.declared.request.Command.TheVariants.{Labels, CheckFormat, CostByLabel, Summary}
use Rattle.command_words.specs.Files.{names_once as asks_once}
use Rattle.command_words.specs.declared.order.Order.{Order as rOrder}
use Rattle.command_words.specs.declared.order.Order.TheVariants.{AsText as rAsText, AsObject as rAsObject}
use Rattle.command_words.specs.declared.order.Order.TheVariants.{Times as rTimes, Tests as rTests}
use Rattle.command_words.specs.declared.order.Order.TheVariants.{Each as rEach}
use Rattle.command_words.specs.declared.order.Order.TheVariants.{TimesAsObject as rTimesAsObject}
use Rattle.command_words.specs.declared.order.Order.TheVariants.{TestsEach as rTestsEach}
use Rattle.command_words.specs.declared.order.Order.TheVariants.{TestsAsObject as rTestsAsObject}
use Rattle.command_words.specs.declared.limits.Limits.{Limits}
use Rattle.command_words.specs.declared.order.Order.TheVariants.{Walks as rWalks, Explores as rExplores}
use Rattle.command_words.specs.declared.order.Order.TheVariants.{Inspects as rInspects}
use Rattle.command_words.specs.declared.order.Schedules.{Schedules}
use Rattle.command_words.specs.declared.order.Subject.{Subject}
use Rattle.command_words.specs.declared.order.Subject.TheVariants.{Run as RunTold, Serial as SerialTold}
use Rattle.command_words.specs.declared.order.Subject.TheVariants.{Check as CheckTold, Cost as CostTold}
use Rattle.command_words.specs.declared.order.Subject.TheVariants.{Pairs as PairsTold, Labels as LabelsTold}
use Rattle.command_words.specs.declared.order.Subject.TheVariants.{CheckFormat as CheckFormatTold}
use Rattle.command_words.specs.declared.order.Subject.TheVariants.{CostByLabel as CostByLabelTold}
use Rattle.command_words.specs.declared.order.Subject.TheVariants.{Summary as SummaryTold}

pub data Order : Type 0 where
  AsText : (a : Asked) → Order
  AsObject : (x : Subject) → (a : Asked) → Order
  Times : (a : Asked) → Order
  TimesAsObject : (a : Asked) → Order
  Tests : (a : Asked) → Order
  TestsEach : (writes : Bool) → (names : List (List ℕ)) → (s : Settings) → Order
  TestsAsObject : (writes : Bool) → (names : List (List ℕ)) → (s : Settings) → Order
  Each : (x : Action) → (files : List (List ℕ)) → (t : Telling) → Order
  Walks : (seed : ℕ) → (a : Asked) → Order
  Explores : (x : Schedules) → (a : Asked) → Order
  Inspects : (a : Asked) → Order

abbrev pub order : rOrder → Order
order (rAsText request) = AsText (asked_of request)
order (rAsObject x request) = AsObject x (asked_of request)
order (rTimes request) = Times (asked_of request)
order (rTimesAsObject request) = TimesAsObject (asked_of request)
order (rTests request) = Tests (asked_of request)
order (rTestsEach tests) = TestsEach tests.writes (map string_bytes tests.names.now) (settings tests.settings)
order (rTestsAsObject tests) =
    TestsAsObject tests.writes (map string_bytes tests.names.now) (settings tests.settings)
order (rEach several) = Each several.action (map string_bytes several.files.now) several.telling
order (rWalks seed request) = Walks seed (asked_of request)
order (rExplores schedules request) = Explores schedules (asked_of request)
order (rInspects request) = Inspects (asked_of request)

-- a command whose answer can be written as one object
abbrev pub answer_told : Command → Option Subject
answer_told Run = Some RunTold
answer_told Serial = Some SerialTold
answer_told Check = Some CheckTold
answer_told Cost = Some CostTold
answer_told Pairs = Some PairsTold
answer_told Labels = Some LabelsTold
answer_told CheckFormat = Some CheckFormatTold
answer_told CostByLabel = Some CostByLabelTold
answer_told Summary = Some SummaryTold
answer_told _ = None

abbrev pub subject_of : Action → Option Subject
subject_of (Answer c) = answer_told c
subject_of Rewrite = None

abbrev pub command_of : Subject → Command
command_of RunTold = Run
command_of SerialTold = Serial
command_of CheckTold = Check
command_of CostTold = Cost
command_of PairsTold = Pairs
command_of LabelsTold = Labels
command_of CheckFormatTold = CheckFormat
command_of CostByLabelTold = CostByLabel
command_of SummaryTold = Summary

-- the arguments request this, with `--format json` after the command
pub record AsksForObject (words : List (List ℕ)) (x : Subject) (a : Asked) : Type 0 where
  pub command : List ℕ
  pub behind : List (List ℕ)
  pub asks : Asks (command ∷ behind) a
  pub told : subject_of a.action ≡ Some x
  pub words_are : words ≡ command ∷ codes "--format" ∷ codes "json" ∷ behind

-- a parallel run that isn't recorded and whose arrays aren't shown
pub record IsTimed (a : Asked) : Type 0 where
  pub parallel : a.action ≡ Answer Run
  pub untraced : a.settings.trace ≡ None
  pub unshown : a.settings.arrays ≡ false

-- `bench` is followed by what can follow `run` without a trace and without arrays
pub record AsksToTime (words : List (List ℕ)) (a : Asked) : Type 0 where
  pub behind : List (List ℕ)
  pub asks : Asks (codes "run" ∷ behind) a
  pub timed : IsTimed a
  pub words_are : words ≡ codes "bench" ∷ behind

-- `bench --format json` is followed by what can follow `bench`
pub record AsksToTimeAsObject (words : List (List ℕ)) (a : Asked) : Type 0 where
  pub behind : List (List ℕ)
  pub asks : Asks (codes "run" ∷ behind) a
  pub timed : IsTimed a
  pub words_are : words ≡ codes "bench" ∷ codes "--format" ∷ codes "json" ∷ behind

-- a parallel run on no input that isn't recorded, whose arrays aren't shown and that is reported by default
pub record IsTested (a : Asked) : Type 0 where
  pub timed : IsTimed a
  pub without_input : a.settings.input ≡ None
  pub told : a.telling ≡ usual_telling

-- `test` is followed by what can follow `run` without an input, a trace, arrays and reporting options: the file is
-- a program, or a folder of programs
pub record AsksToTest (words : List (List ℕ)) (a : Asked) : Type 0 where
  pub behind : List (List ℕ)
  pub asks : Asks (codes "run" ∷ behind) a
  pub tested : IsTested a
  pub words_are : words ≡ codes "test" ∷ behind

-- the limits of a request
abbrev pub AreLimitsOf : Limits → Asked → Type 0
AreLimitsOf l a = (budget_of l.budget ≡ a.settings.budget) × (spread l.spread ≡ a.settings.spread)

-- the arguments order this
abbrev pub Orders : (words : List (List ℕ)) → Order → Type 0
Orders words (AsText a) = Asks words a
Orders words (AsObject x a) = AsksForObject words x a
Orders words (Times a) = AsksToTime words a
Orders words (TimesAsObject a) = AsksToTimeAsObject words a
Orders words (Tests a) = AsksToTest words a
-- which arguments order these isn't specified
Orders words (TestsEach writes names s) = ⊥
Orders words (TestsAsObject writes names s) = ⊥
Orders words (Each x files t) = ⊥
Orders words (Walks seed a) = ⊥
Orders words (Explores x a) = ⊥
Orders words (Inspects a) = ⊥

-- it gives no two files the same name
abbrev pub names_once : Order → Bool
names_once (AsText a) = asks_once a
names_once (AsObject x a) = asks_once a
names_once (Times a) = asks_once a
names_once (TimesAsObject a) = asks_once a
names_once (Tests a) = asks_once a
names_once (TestsEach writes names s) = true
names_once (TestsAsObject writes names s) = true
names_once (Each x files t) = true
names_once (Walks seed a) = asks_once a
names_once (Explores x a) = asks_once a
names_once (Inspects a) = asks_once a
