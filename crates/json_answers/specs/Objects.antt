-- The answer of a command to a program's text as one object, and the reason why there is none.
use Rattle.std.specs.Prelude.{ℕ, ℤ, ◌≡◌, ◌≢◌, List}
use Rattle.std.specs.Str.{chars}
use Rattle.syntax.specs.Lexical.{AreTokensOf}
use Rattle.syntax.specs.Spelling.{spelling}
use Rattle.syntax.specs.declared.place.TextPlace.{TextPlace}
use Rattle.syntax_tree.specs.Tree as tree
use Rattle.statement_places.specs.Begun.{AreBegun}
use Rattle.statement_places.specs.Starts.{starts}
use Rattle.types.specs.Code.{Array, Program}
use Rattle.types.specs.Outcome.{Budget, Outcome, outcome}
use Rattle.cost.specs.Accounts.{span_by_label}
use Rattle.cost.specs.Costs.{cost_of, tally_of}
use Rattle.cost.specs.declared.cost.Cost.{Cost as Numbers}
use Rattle.printing.specs.OutcomeText.{status_of}
use Rattle.command_line.specs.Requests.{Settings}
use Rattle.command_line.specs.declared.request.Command.{Command}
use Rattle.command_line.specs.declared.request.Command.TheVariants.{Run, Serial, Check, Listing, Pairs}
use Rattle.command_line.specs.declared.request.Command.TheVariants.{Meetings, Explore, Labels, Places, Format}
use Rattle.command_line.specs.declared.request.Command.TheVariants.{CheckFormat, View, Summary, Draw, Chrome}
use Rattle.command_line.specs.declared.request.Command.TheVariants.{Page, Schedules, Upgrade}
use Rattle.command_line.specs.declared.request.Command.TheVariants.{Cost, CostByLabel, CostByProcedure}
use Rattle.command_line.specs.declared.request.Command.TheVariants.{PairsByLine, ViewByLine, SummaryByLine}
use Rattle.files.specs.Held.{Held}
use Rattle.failures.specs.declared.failure.Failure.{Failure}
use Rattle.failures.specs.declared.failure.Failure.TheVariants.{CannotWriteOutput}
use Rattle.json_answers.specs.Costs.{cost_json}
use Rattle.json_answers.specs.Outcomes.{outcome_json}
use Rattle.json_answers.specs.Pieces.{line}
use Rattle.json_answers.specs.Statements.{shares_json, statements_json}
use Rattle.json_answers.specs.Programs.{accepted_json, formatted_json, pairs_json}
use Rattle.commands.specs.Answers.{Explains, IsExplored, TellsAccepted, TellsOfRun, TellsPairs, account_in}
use Rattle.commands.specs.Statements.{HasStatements}
use Rattle.commands.specs.declared.costing.Shares.TheVariants.{ByLabel}
use Rattle.commands.specs.declared.statements.NamedStatements.{NamedStatements}
use Rattle.layout.specs.Kept.{IsLaidOut}

-- the positions at which the statements of the text's program start
abbrev pub ArePlaces : (text : List ℕ) → List TextPlace → Type 0
ArePlaces text places =
    (p : tree.Program) → AreTokensOf (chars text) (spelling p) → AreBegun (chars text) (starts p) places

-- the object of an outcome of the text's program, which declares these arrays, and its status
pub record TellsOutcome (declared : List Array) (o : Outcome) (text told : List ℕ) (status : ℕ) : Type 0 where
  pub places : List TextPlace
  pub begun : ArePlaces text places
  pub told_is : told ≡ line (outcome_json declared places o)
  pub status_is : status ≡ status_of o

-- `serial`: the one-thread outcome of the text's program, of the input and under the budget given
abbrev pub ObjectOfSerial : Settings → Held → (text told : List ℕ) → (status : ℕ) → Type 0
ObjectOfSerial s held text told status =
    TellsOfRun s held text
    (λ code input. TellsOutcome code.arrays (outcome code input s.budget) text told status)

-- `run`: the text's program has no race; the outcome is the one-thread outcome
pub record ObjectOfRun (s : Settings) (held : Held) (text told : List ℕ) (status : ℕ) : Type 0 where
  pub run : IsExplored s held text
  pub tells : TellsOutcome run.code.arrays (outcome run.code run.input s.budget) text told status

-- if a run ended without faults its cost is reported, else its outcome
pub data TellsNumbers (code : Program) (o : Outcome) (c : Numbers) (text told : List ℕ) (status : ℕ)
    : Type 0 where
  numbers : status_of o ≡ 0 → told ≡ line (cost_json c) → status ≡ 0 → TellsNumbers code o c text told status
  not_ended : status_of o ≢ 0 → TellsOutcome code.arrays o text told status
      → TellsNumbers code o c text told status

-- `cost`: the cost of the one-thread run
abbrev pub ObjectOfCost : Settings → Held → (text told : List ℕ) → (status : ℕ) → Type 0
ObjectOfCost s held text told status =
    TellsOfRun s held text (λ code input.
    TellsNumbers code (outcome code input s.budget) (cost_of (tally_of code input s.budget)) text told status)

-- the shares of all statements of the text's program, after the numbers of a cost
pub record TellsShares (text : List ℕ) (c : Numbers) (work span told : List ℕ) : Type 0 where
  pub statements : NamedStatements
  pub are : HasStatements text statements
  pub told_is : told ≡ line (shares_json c statements work span)

abbrev pub HasSharesOf : (text : List ℕ) → Program → (input : List (List ℤ)) → Budget → (told : List ℕ) → Type 0
HasSharesOf text code input b told =
    let a = account_in ByLabel code input b in
    TellsShares text (cost_of (tally_of code input b)) a.work (span_by_label a) told

-- if a run ended without faults its cost is reported with these shares, else its outcome
pub data TellsByLine (code : Program) (o : Outcome) (IsCost : (told : List ℕ) → Type 0) (text told : List ℕ)
    (status : ℕ) : Type 0 where
  shared : status_of o ≡ 0 → IsCost told → status ≡ 0 → TellsByLine code o IsCost text told status
  unshared : status_of o ≢ 0 → TellsOutcome code.arrays o text told status
      → TellsByLine code o IsCost text told status

-- `cost --by-line`: the cost of the one-thread run, with the share of each statement
abbrev pub ObjectOfShares : Settings → Held → (text told : List ℕ) → (status : ℕ) → Type 0
ObjectOfShares s held text told status =
    TellsOfRun s held text (λ code input.
    TellsByLine code (outcome code input s.budget) (HasSharesOf text code input s.budget) text told status)

-- `list`: the statements of the text's program, even if it breaks rules
pub record ObjectOfLabels (text told : List ℕ) (status : ℕ) : Type 0 where
  pub statements : NamedStatements
  pub are : HasStatements text statements
  pub told_is : told ≡ line (statements_json statements)
  pub status_is : status ≡ 0

-- `fmt --check`: the text of a program has the canonical layout
pub record ObjectOfCheckFormat (text told : List ℕ) (status : ℕ) : Type 0 where
  pub program : tree.Program
  pub spelled : AreTokensOf (chars text) (spelling program)
  pub laid : IsLaidOut (chars text) (chars text)
  pub told_is : told ≡ line formatted_json
  pub status_is : status ≡ 0

-- `check`: the text's program has no race, and these numbers of procedures and labels
abbrev pub ObjectOfCheck : (text told : List ℕ) → (status : ℕ) → Type 0
ObjectOfCheck text = TellsAccepted text (λ code program. line (accepted_json code))

-- `mhp`: the pairs of labels of the text's program that may run together, ascending
abbrev pub ObjectOfPairs : (text told : List ℕ) → (status : ℕ) → Type 0
ObjectOfPairs text = TellsPairs text (λ pairs. line (pairs_json pairs))

-- the object written, with its status, answers the command for a program's text
abbrev pub ObjectOf : Command → Settings → Held → (text told : List ℕ) → (status : ℕ) → Type 0
ObjectOf Run s held text told status = ObjectOfRun s held text told status
ObjectOf Serial s held text told status = ObjectOfSerial s held text told status
ObjectOf Check s held text told status = ObjectOfCheck text told status
ObjectOf Cost s held text told status = ObjectOfCost s held text told status
ObjectOf Pairs s held text told status = ObjectOfPairs text told status
ObjectOf Listing s held text told status = ⊥
ObjectOf Meetings s held text told status = ⊥
ObjectOf PairsByLine s held text told status = ⊥
ObjectOf Explore s held text told status = ⊥
ObjectOf Labels s held text told status = ObjectOfLabels text told status
ObjectOf Places s held text told status = ⊥
ObjectOf Format s held text told status = ⊥
ObjectOf CheckFormat s held text told status = ObjectOfCheckFormat text told status
ObjectOf CostByLabel s held text told status = ObjectOfShares s held text told status
ObjectOf CostByProcedure s held text told status = ⊥
ObjectOf View s held text told status = ⊥
ObjectOf ViewByLine s held text told status = ⊥
ObjectOf SummaryByLine s held text told status = ⊥
ObjectOf Summary s held text told status = ⊥
ObjectOf Draw s held text told status = ⊥
ObjectOf Chrome s held text told status = ⊥
ObjectOf Page s held text told status = ⊥
ObjectOf Schedules s held text told status = ⊥
ObjectOf Upgrade s held text told status = ⊥

-- there is a reason why there is no object, and it isn't that none could be written
pub record FailsEarly (c : Command) (s : Settings) (held : Held) (text : List ℕ) (f : Failure) : Type 0 where
  pub why : Explains c s held text f
  pub early : f ≢ CannotWriteOutput
