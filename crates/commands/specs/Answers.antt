-- The answers of commands to the text of a program, and the reasons for failures.
use Rattle.std.specs.Prelude.{ℕ, ℤ, ◌≡◌, ◌≢◌, ◌⊎◌, ◌+◌, ◌++◌, List, [], Bool, false, IsTrue}
use Rattle.std.specs.Prelude.{Option, Some, is_some, Result, MatchResult, length, suc}
use Rattle.std.specs.Io.KnownBytes.{Appends, Keeps}
use Rattle.std.specs.List.{flat_map}
use Rattle.std.specs.Str.{chars, IsUtf8}
use Rattle.std.specs.Str.Lines.{lines}
use Rattle.std.specs.String.{string_bytes}
use Rattle.syntax.specs.Canonical.{listed}
use Rattle.syntax.specs.Lexical.{AreTokensOf}
use Rattle.syntax.specs.Refusals.{Tells as IsErrorOfText}
use Rattle.syntax.specs.Spelling.{spelling}
use Rattle.syntax.specs.declared.place.TextPlace.{TextPlace}
use Rattle.layout.specs.Kept.{IsLaidOut, KeepsAll}
use Rattle.statement_places.specs.Begun.{AreBegun}
use Rattle.statement_places.specs.Lines.{placed_lines}
use Rattle.statement_places.specs.Starts.{starts}
use Rattle.syntax_tree.specs.Tree as tree
use Rattle.types.specs.Code.{Program}
use Rattle.types.specs.Outcome.{Budget, Outcome, outcome}
use Rattle.types.specs.Resolution.{resolution}
use Rattle.types.specs.Rules.{BreaksNoRule, errors_of}
use Rattle.types.specs.Told.{Told}
use Rattle.types.specs.TreeRuns.{Explored, NoSuchChoice}
use Rattle.types.specs.Typed.{code_of}
use Rattle.types.specs.declared.error.TypeError.{TypeError}
use Rattle.cost.specs.Accounts.{Account, account_of, span_by_label}
use Rattle.cost.specs.Costs.{cost_of, tally_of}
use Rattle.cost.specs.Text.{cost_text, labels_text, procedures_text}
use Rattle.cost.specs.declared.cost.Cost.{Cost as Numbers}
use Rattle.parallel_relation.specs.Pairs.{AreListed}
use Rattle.parallel_relation.specs.Together.{LabelsMeet}
use Rattle.race_checker.specs.Clash.{IsAccepted}
use Rattle.race_checker.specs.Races.{IsLeastRace}
use Rattle.race_checker.specs.Translation.{race as race_of}
use Rattle.printing.specs.Appending.{AppendsBeginning}
use Rattle.finish_scope.specs.RunErrors.{IsRunCause}
use Rattle.commands.specs.Chosen.{ComesTo, HasLeaves}
use Rattle.commands.specs.MeetingLines.{HasLines}
use Rattle.commands.specs.Statements.{HasStatements, lines_around, named_pair}
use Rattle.commands.specs.declared.statements.NamedStatements.{NamedStatements}
use Rattle.commands.specs.declared.costing.Shares.{Shares}
use Rattle.commands.specs.declared.costing.Shares.TheVariants.{Untold, ByLabel, ByProcedure}
use Rattle.commands.specs.declared.telling.About.{About}
use Rattle.commands.specs.declared.telling.About.TheVariants.{Counts, Lines}
use Rattle.files.specs.Choosing.{TellsNoChoices}
use Rattle.printing.specs.ExploredText.{explored_text, explored_status}
use Rattle.files.specs.Held.{Held, BeginsWith, TellsNoInput}
use Rattle.printing.specs.Labels.{accepted_text, labels_in, pair_text}
use Rattle.printing.specs.OutcomeText.{outcome_text, status_of}
use Rattle.command_line.specs.Requests.{Settings}
use Rattle.failures.specs.declared.failure.Failure.{Failure}
use Rattle.failures.specs.declared.least_race.LeastRace.{LeastRace}
use Rattle.failures.specs.declared.failure.Failure.TheVariants.{CannotRead, NotUtf8, Syntax, Types, Race}
use Rattle.failures.specs.declared.failure.Failure.TheVariants.{NoMemoryInCheck, Input, CannotWriteOutput}
use Rattle.failures.specs.declared.failure.Failure.TheVariants.{NoMemory, ChoicesNotUnderstood, NoLeaf}
use Rattle.failures.specs.declared.failure.Failure.TheVariants.{NotLaidOut, Trace, Illegal}
use Rattle.failures.specs.declared.failure.Failure.TheVariants.{CannotWrite, Run as RunFailed}
use Rattle.command_line.specs.declared.request.Command.{Command}
use Rattle.command_line.specs.declared.request.Command.TheVariants.{Run, Serial, Check, Listing, Pairs}
use Rattle.command_line.specs.declared.request.Command.TheVariants.{Meetings, Explore, Labels, Places, Format}
use Rattle.command_line.specs.declared.request.Command.TheVariants.{CheckFormat, View, Summary, Draw, Chrome}
use Rattle.command_line.specs.declared.request.Command.TheVariants.{Page, Schedules, Upgrade}
use Rattle.command_line.specs.declared.request.Command.TheVariants.{Cost, CostByLabel, CostByProcedure}
use Rattle.command_line.specs.declared.request.Command.TheVariants.{PairsByLine, ViewByLine, SummaryByLine}

-- the text spells a program that breaks no rule, of which this is the code
pub record IsCodeOf (text : List ℕ) (code : Program) : Type 0 where
  pub program : tree.Program
  pub spelled : AreTokensOf (chars text) (spelling program)
  pub right : BreaksNoRule program
  pub resolved : resolution program ≡ Some code

-- this is the code of the text's program, and this the input that was given
pub record HasInput (s : Settings) (held : Held) (text : List ℕ) (code : Program) (input : List (List ℤ))
    : Type 0 where
  pub is_code : IsCodeOf text code
  pub begins : BeginsWith s.input held code.arrays input

-- the text's program has no race, and this is its input
pub record IsExplored (s : Settings) (held : Held) (text : List ℕ) : Type 0 where
  pub code : Program
  pub accepted : IsAccepted code
  pub input : List (List ℤ)
  pub given : HasInput s held text code input

-- the command runs the program; each command has a row here and below, and a new command needs new rows
abbrev pub IsRunBy : Command → Program → Type 0
IsRunBy Run code = IsAccepted code
IsRunBy Explore code = IsAccepted code
IsRunBy View code = IsAccepted code
IsRunBy ViewByLine code = IsAccepted code
IsRunBy Summary code = IsAccepted code
IsRunBy SummaryByLine code = IsAccepted code
IsRunBy Draw code = IsAccepted code
IsRunBy Chrome code = IsAccepted code
IsRunBy Page code = IsAccepted code
IsRunBy Schedules code = IsAccepted code
IsRunBy Upgrade code = IsAccepted code
IsRunBy Serial code = Unit {0}
IsRunBy Cost code = Unit {0}
IsRunBy CostByLabel code = Unit {0}
IsRunBy CostByProcedure code = Unit {0}
IsRunBy Check code = ⊥
IsRunBy Listing code = ⊥
IsRunBy Pairs code = ⊥
IsRunBy Meetings code = ⊥
IsRunBy PairsByLine code = ⊥
IsRunBy Labels code = ⊥
IsRunBy Places code = ⊥
IsRunBy Format code = ⊥
IsRunBy CheckFormat code = ⊥

-- ---- answers

-- the text of an outcome, with the arrays if they are requested, and its status
pub record Shows (arrays : Bool) (o : Outcome) (code : Program) (told : List ℕ) (status : ℕ)
    : Type 0 where
  pub told_is : told ≡ outcome_text code.arrays arrays o
  pub status_is : status ≡ status_of o

-- what is reported for the text's program and the input that was given
pub record TellsOfRun (s : Settings) (held : Held) (text : List ℕ)
    (Tells : Program → (input : List (List ℤ)) → Type 0) : Type 0 where
  pub code : Program
  pub input : List (List ℤ)
  pub given : HasInput s held text code input
  pub tells : Tells code input

-- `serial`: the one-thread outcome of the text's program, of the input and under the budget given
abbrev pub AnswersSerial : Settings → Held → (text told : List ℕ) → (status : ℕ) → Type 0
AnswersSerial s held text told status =
    TellsOfRun s held text (λ code input. Shows s.arrays (outcome code input s.budget) code told status)

-- after a text come the shares of the labels of the text's program, each between the position and the text of
-- its statement
pub record HasShares (text before : List ℕ) (work span told : List ℕ) : Type 0 where
  pub statements : NamedStatements
  pub are : HasStatements text statements
  pub told_is : told ≡ before ++ lines_around statements 0 (lines (labels_text work span))

-- the lines of a cost, followed by those of the shares of each label, or of each procedure; these are their
-- rows
abbrev pub HasCost : Shares → (text : List ℕ) → Numbers → (work span : List ℕ) → Program → (told : List ℕ) → Type 0
HasCost Untold text c work span code told = told ≡ cost_text c
HasCost ByLabel text c work span code told = HasShares text (cost_text c) work span told
HasCost ByProcedure text c work span code told = told ≡ cost_text c ++ procedures_text work span code

-- the number of their rows: one for each label of the program, and one for 0
abbrev pub rows_in : Shares → Program → ℕ
rows_in Untold code = 0
rows_in ByLabel code = labels_in code + 1
rows_in ByProcedure code = labels_in code + 1

-- the account of a run, with these rows
abbrev pub account_in : Shares → Program → (input : List (List ℤ)) → Budget → Account
account_in shares code input b = account_of code (rows_in shares code) input b

-- the lines of its cost
abbrev pub HasCostOf : Shares → (text : List ℕ) → Program → (input : List (List ℤ)) → Budget → (told : List ℕ)
    → Type 0
HasCostOf shares text code input b told =
    let a = account_in shares code input b in
    HasCost shares text (cost_of (tally_of code input b)) a.work (span_by_label a) code told

-- the command that requests them
abbrev pub command_of : Shares → Command
command_of Untold = Cost
command_of ByLabel = CostByLabel
command_of ByProcedure = CostByProcedure

-- if a run ended without faults its cost is reported, else its outcome
pub data TellsCost (code : Program) (o : Outcome) (IsCost : (told : List ℕ) → Type 0) (told : List ℕ)
    (status : ℕ) : Type 0 where
  numbers : status_of o ≡ 0 → IsCost told → status ≡ 0 → TellsCost code o IsCost told status
  not_ended : status_of o ≢ 0 → Shows false o code told status → TellsCost code o IsCost told status

-- `cost`: the cost of the one-thread run of the text's program on the input and under the budget given;
-- with `--by-line` and `--by-procedure` shares follow
abbrev pub AnswersCost : Shares → Settings → Held → (text told : List ℕ) → (status : ℕ) → Type 0
AnswersCost shares s held text told status =
    TellsOfRun s held text
    (λ code input. TellsCost code (outcome code input s.budget)
    (HasCostOf shares text code input s.budget) told status)

-- `run`: the text's program has no race; the outcome is the one-thread outcome
pub record AnswersRun (s : Settings) (held : Held) (text told : List ℕ) (status : ℕ) : Type 0 where
  pub run : IsExplored s held text
  pub shows : Shows s.arrays (outcome run.code run.input s.budget) run.code told status

-- the text's program has no race, and this is reported for it
pub record TellsAccepted (text : List ℕ) (text_of : Program → tree.Program → List ℕ)
    (told : List ℕ) (status : ℕ) : Type 0 where
  pub code : Program
  pub is_code : IsCodeOf text code
  pub accepted : IsAccepted code
  pub told_is : told ≡ text_of code is_code.program
  pub status_is : status ≡ 0

-- the text for it: the numbers of procedures and labels, or the listing
abbrev pub accepted_told : About → Program → tree.Program → List ℕ
accepted_told Counts code program = accepted_text code
accepted_told Lines code program = listed program

-- the command that requests it: `check`, or `check --list`
abbrev pub command_about : About → Command
command_about Counts = Check
command_about Lines = Listing

-- the pairs of labels of the text's program that may run together, ascending, in the form of this text
pub record TellsPairs (text : List ℕ) (text_of : List (ℕ × ℕ) → List ℕ) (told : List ℕ) (status : ℕ)
    : Type 0 where
  pub code : Program
  pub is_code : IsCodeOf text code
  pub pairs : List (ℕ × ℕ)
  pub listed : AreListed (LabelsMeet code) pairs
  pub told_is : told ≡ text_of pairs
  pub status_is : status ≡ 0

-- `mhp`: a line for each pair
abbrev pub AnswersPairs : (text told : List ℕ) → (status : ℕ) → Type 0
AnswersPairs text = TellsPairs text (flat_map pair_text)

-- `mhp --by-line`: a line for each pair, with both statements
pub record AnswersPairsByLine (text told : List ℕ) (status : ℕ) : Type 0 where
  pub statements : NamedStatements
  pub are : HasStatements text statements
  pub tells : TellsPairs text (flat_map (named_pair statements)) told status

-- `mhp --accesses`: the pairs of accesses of each procedure and of `main` that may run together
pub record AnswersMeetings (text told : List ℕ) (status : ℕ) : Type 0 where
  pub code : Program
  pub is_code : IsCodeOf text code
  pub lines_are : HasLines code (suc (length code.procedures)) told
  pub status_is : status ≡ 0

-- `list`: the listing of the text's program, even if it breaks rules
pub record AnswersLabels (text told : List ℕ) (status : ℕ) : Type 0 where
  pub program : tree.Program
  pub spelled : AreTokensOf (chars text) (spelling program)
  pub told_is : told ≡ listed program
  pub status_is : status ≡ 0

-- `list --lines`: the listing, with the place of each statement's first token
pub record AnswersPlaces (text told : List ℕ) (status : ℕ) : Type 0 where
  pub program : tree.Program
  pub spelled : AreTokensOf (chars text) (spelling program)
  pub places : List TextPlace
  pub begun : AreBegun (chars text) (starts program) places
  pub told_is : told ≡ placed_lines places (lines (listed program))
  pub status_is : status ≡ 0

-- this is the text of a program in the canonical layout, with its comments; it spells the same program
pub record IsLayoutOf (text : List ℕ) (program : tree.Program) (laid : List ℕ) : Type 0 where
  pub is_text : IsUtf8 laid
  pub is_laid : IsLaidOut (chars text) (chars laid)
  pub kept : KeepsAll (chars text) (chars laid)
  pub same : AreTokensOf (chars laid) (spelling program)

-- `fmt`: the text is written in that layout
pub record AnswersFormat (text told : List ℕ) (status : ℕ) : Type 0 where
  pub program : tree.Program
  pub spelled : AreTokensOf (chars text) (spelling program)
  pub layout : IsLayoutOf text program told
  pub status_is : status ≡ 0

-- `fmt --check`: the text has that layout, and nothing is written
pub record AnswersCheckFormat (text told : List ℕ) (status : ℕ) : Type 0 where
  pub program : tree.Program
  pub spelled : AreTokensOf (chars text) (spelling program)
  pub laid : IsLaidOut (chars text) (chars text)
  pub told_is : told ≡ []
  pub status_is : status ≡ 0

-- the result of its run by the choices that are given
pub record Explores (s : Settings) (held : Held) (text : List ℕ) (e : Explored) : Type 0 where
  pub run : IsExplored s held text
  pub by_choices : ComesTo s.choices held run.code run.input e

-- `explore`: the text of the result of the run by choices; if it is open, a leaf can step
pub record AnswersExplore (s : Settings) (held : Held) (text told : List ℕ) (status : ℕ)
    : Type 0 where
  pub comes_to : Explored
  pub explores : Explores s held text comes_to
  pub open_yet : HasLeaves comes_to
  pub told_is : explored_text explores.run.code.arrays s.arrays comes_to ≡ Some told
  pub status_is : status ≡ explored_status comes_to

-- the text written, with its status, answers the command for a program's text; answers for a trace, and a page of
-- schedules, are in `viewing`
abbrev pub Answers : Command → Settings → Held → (text told : List ℕ) → (status : ℕ) → Type 0
Answers Run s held text told status = AnswersRun s held text told status
Answers Serial s held text told status = AnswersSerial s held text told status
Answers Check s held text told status = TellsAccepted text (accepted_told Counts) told status
Answers Listing s held text told status = TellsAccepted text (accepted_told Lines) told status
Answers Pairs s held text told status = AnswersPairs text told status
Answers Meetings s held text told status = AnswersMeetings text told status
Answers PairsByLine s held text told status = AnswersPairsByLine text told status
Answers Explore s held text told status = AnswersExplore s held text told status
Answers Labels s held text told status = AnswersLabels text told status
Answers Places s held text told status = AnswersPlaces text told status
Answers Format s held text told status = AnswersFormat text told status
Answers CheckFormat s held text told status = AnswersCheckFormat text told status
Answers Cost s held text told status = AnswersCost Untold s held text told status
Answers CostByLabel s held text told status = AnswersCost ByLabel s held text told status
Answers CostByProcedure s held text told status = AnswersCost ByProcedure s held text told status
Answers View s held text told status = ⊥
Answers ViewByLine s held text told status = ⊥
Answers Summary s held text told status = ⊥
Answers SummaryByLine s held text told status = ⊥
Answers Draw s held text told status = ⊥
Answers Chrome s held text told status = ⊥
Answers Page s held text told status = ⊥
Answers Schedules s held text told status = ⊥
Answers Upgrade s held text told status = ⊥

-- ---- failures

-- the text spells a program that breaks this rule, or memory ran out
pub record BreaksRule (text : List ℕ) (e : TypeError) : Type 0 where
  pub program : tree.Program
  pub spelled : AreTokensOf (chars text) (spelling program)
  pub broken : Told (errors_of program) e

-- the command tests the rules of types
abbrev pub TestsRules : Command → Type 0
TestsRules Labels = ⊥
TestsRules Places = ⊥
TestsRules Format = ⊥
TestsRules CheckFormat = ⊥
TestsRules Run = Unit {0}
TestsRules Serial = Unit {0}
TestsRules Check = Unit {0}
TestsRules Listing = Unit {0}
TestsRules Pairs = Unit {0}
TestsRules Meetings = Unit {0}
TestsRules PairsByLine = Unit {0}
TestsRules Explore = Unit {0}
TestsRules Cost = Unit {0}
TestsRules CostByLabel = Unit {0}
TestsRules CostByProcedure = Unit {0}
TestsRules View = Unit {0}
TestsRules ViewByLine = Unit {0}
TestsRules Summary = Unit {0}
TestsRules SummaryByLine = Unit {0}
TestsRules Draw = Unit {0}
TestsRules Chrome = Unit {0}
TestsRules Page = Unit {0}
TestsRules Schedules = Unit {0}
TestsRules Upgrade = Unit {0}

-- why a text has no code, unless memory runs out: it spells no program, or one that breaks a rule
abbrev pub TellsNoCode : (text : List ℕ) → Failure → Type 0
TellsNoCode text (Syntax e) = IsErrorOfText text e
TellsNoCode text (Types e) = BreaksRule text e
TellsNoCode text _ = ⊥

-- why a text spells no program, unless memory runs out
abbrev pub TellsUnspelled : (text : List ℕ) → Failure → Type 0
TellsUnspelled text (Syntax e) = IsErrorOfText text e
TellsUnspelled text _ = ⊥

-- C1: the text's program has a race, and the least one is reported
pub record HasRace (text : List ℕ) (found : LeastRace) : Type 0 where
  pub is_code : IsCodeOf text (code_of found.typed)
  pub least : IsLeastRace (code_of found.typed) (race_of found.race)

-- the command looks for races
abbrev pub LooksForRaces : Command → Type 0
LooksForRaces Run = Unit {0}
LooksForRaces Check = Unit {0}
LooksForRaces Listing = Unit {0}
LooksForRaces Explore = Unit {0}
LooksForRaces View = Unit {0}
LooksForRaces ViewByLine = Unit {0}
LooksForRaces Summary = Unit {0}
LooksForRaces SummaryByLine = Unit {0}
LooksForRaces Draw = Unit {0}
LooksForRaces Chrome = Unit {0}
LooksForRaces Page = Unit {0}
LooksForRaces Schedules = Unit {0}
LooksForRaces Upgrade = Unit {0}
LooksForRaces Serial = ⊥
LooksForRaces Pairs = ⊥
LooksForRaces Meetings = ⊥
LooksForRaces PairsByLine = ⊥
LooksForRaces Labels = ⊥
LooksForRaces Places = ⊥
LooksForRaces Format = ⊥
LooksForRaces CheckFormat = ⊥
LooksForRaces Cost = ⊥
LooksForRaces CostByLabel = ⊥
LooksForRaces CostByProcedure = ⊥

-- why a text has no accepted program, unless memory runs out
abbrev pub TellsNotAccepted : (text : List ℕ) → Failure → Type 0
TellsNotAccepted text (Syntax e) = TellsNoCode text (Syntax e)
TellsNotAccepted text (Types e) = TellsNoCode text (Types e)
TellsNotAccepted text (Race found) = HasRace text found
TellsNotAccepted text NoMemoryInCheck = Unit {0}
TellsNotAccepted text _ = ⊥

-- the text's program is run, but there is no input, for the reason in the failure
pub record LacksInput (c : Command) (s : Settings) (held : Held) (text : List ℕ) (f : Failure)
    : Type 0 where
  pub code : Program
  pub is_code : IsCodeOf text code
  pub is_run : IsRunBy c code
  pub why : TellsNoInput s.input held code.arrays f

-- why a text has no code, or its program no input, unless memory runs out
abbrev pub TellsNotGiven : Settings → Held → (text : List ℕ) → Failure → Type 0
TellsNotGiven s held text f = TellsNoCode text f ⊎ LacksInput Serial s held text f

-- why a text has no accepted program, or that program no input, unless memory runs out
abbrev pub TellsNotBegun : Settings → Held → (text : List ℕ) → Failure → Type 0
TellsNotBegun s held text f = TellsNotAccepted text f ⊎ LacksInput Run s held text f

-- the text's program is run by choices, but there are none, for the reason in the failure
pub record LacksChoices (c : Command) (s : Settings) (held : Held) (text : List ℕ) (f : Failure)
    : Type 0 where
  pub by_choices : c ≡ Explore
  pub run : IsExplored s held text
  pub why : TellsNoChoices s.choices held f

-- the text's program is run by choices, and the one with this number is the first that names no leaf
pub record LacksLeaf (c : Command) (s : Settings) (held : Held) (text : List ℕ) (n : ℕ)
    : Type 0 where
  pub by_choices : c ≡ Explore
  pub explores : Explores s held text (NoSuchChoice n)

-- the text spells a program, and is not formatted
pub record NeedsLayout (text : List ℕ) : Type 0 where
  pub program : tree.Program
  pub spelled : AreTokensOf (chars text) (spelling program)
  pub not_laid : ¬ IsLaidOut (chars text) (chars text)

-- the text's program has no race and runs in parallel on its input, but has no outcome, for this reason
pub record FailsAsTasks (c : Command) (s : Settings) (held : Held) (text : List ℕ) (Why : Type 0)
    : Type 0 where
  pub as_tasks : c ≡ Run
  pub run : IsExplored s held text
  pub why : Why

-- a file is named for the trace of a run
abbrev pub IsTraced : Settings → Type 0
IsTraced s = IsTrue (is_some s.trace)

-- a failure is one of the text, for this command; only out of memory, and a failure to write the output,
-- are reported without a condition
abbrev pub Explains : Command → Settings → Held → (text : List ℕ) → Failure → Type 0
Explains c s held text (CannotRead name) =
    (LacksInput c s held text (CannotRead name)) ⊎ (LacksChoices c s held text (CannotRead name))
Explains c s held text (NotUtf8 name) = LacksInput c s held text (NotUtf8 name)
Explains c s held text (Syntax e) = TellsNoCode text (Syntax e)
Explains c s held text (Types e) = TestsRules c × BreaksRule text e
Explains c s held text (Race found) = LooksForRaces c × HasRace text found
Explains c s held text NoMemoryInCheck = LooksForRaces c
Explains c s held text (Input e) = LacksInput c s held text (Input e)
Explains c s held text (RunFailed e) = FailsAsTasks c s held text (IsRunCause s.spread.tasks (IsTraced s) e)
Explains c s held text ChoicesNotUnderstood = LacksChoices c s held text ChoicesNotUnderstood
Explains c s held text (NoLeaf n) = LacksLeaf c s held text n
Explains c s held text (Trace e) = ⊥
Explains c s held text (Illegal n) = ⊥
Explains c s held text (CannotWrite name) = FailsAsTasks c s held text (s.trace ≡ Some (string_bytes name))
Explains c s held text NotLaidOut = (c ≡ CheckFormat) × NeedsLayout text
Explains c s held text CannotWriteOutput = Unit {0}
Explains c s held text NoMemory = Unit {0}

-- ---- what was done

-- the texts and statuses that are answers
abbrev pub Answer : Type 1
Answer = (told : List ℕ) → (status : ℕ) → Type 0

-- an answer was written completely, and its status returned
pub record Wrote (Is : Answer) (old new : Option (List ℕ)) (status : ℕ) : Type 0 where
  pub told : List ℕ
  pub answers : Is told status
  pub written : Appends old new told

-- a prefix of an answer was written
pub record Began (Is : Answer) (old new : Option (List ℕ)) : Type 0 where
  pub told : List ℕ
  pub status : ℕ
  pub answers : Is told status
  pub begun : AppendsBeginning old new told

-- there is a reason; nothing was written, or, if writing failed, a prefix of the answer
pub record Failed (Is : Answer) (Why : Failure → Type 0) (old new : Option (List ℕ)) (f : Failure)
    : Type 0 where
  pub why : Why f
  pub silent : f ≢ CannotWriteOutput → Keeps old new
  pub begun : f ≡ CannotWriteOutput → Began Is old new

-- the command was done
abbrev pub Done : Answer → (Why : Failure → Type 0) → (old new : Option (List ℕ)) → Result ℕ Failure
    → Type 0
Done Is Why old new r = MatchResult r (Wrote Is old new) (Failed Is Why old new)

-- it was done with the text of a program
abbrev pub Does : Command → Settings → Held → (text : List ℕ) → (old new : Option (List ℕ))
    → Result ℕ Failure → Type 0
Does c s held text = Done (Answers c s held text) (Explains c s held text)

-- it was done with the text alone, independent of settings and files
abbrev pub DoesAlone : Command → (text : List ℕ) → (old new : Option (List ℕ)) → Result ℕ Failure → Type 0
DoesAlone c text old new r = (s : Settings) (held : Held) → Does c s held text old new r
