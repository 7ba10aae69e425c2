-- The expected output of programs, and what is printed about them.
use Rattle.std.specs.Prelude.{ℕ, zero, suc, ℤ, ◌≡◌, ◌≢◌, ◌+◌, ◌-◌, ◌&&◌, not, Bool, true, false}
use Rattle.std.specs.Prelude.{List, [], ◌∷◌}
use Rattle.std.specs.Prelude.{if◌then◌else◌, ◌++◌, codes, length, Option, None, Some, Result, Ok, Err}
use Rattle.std.specs.Prelude.{MatchOption, MatchBool, String}
use Rattle.std.specs.Fmt.{decimal}
use Rattle.std.specs.Global.{Global}
use Rattle.std.specs.List.{flat_map}
use Rattle.std.specs.Str.Lines.{lines}
use Rattle.std.specs.String.{string_bytes}
use Rattle.types.specs.Code.{Program}
use Rattle.types.specs.Outcome.{Budget, Outcome, outcome}
use Rattle.types.specs.Translation.{budget as budget_of, input as lists_of}
use Rattle.types.specs.Typed.{code_of}
use Rattle.printing.specs.OutcomeText.{outcome_text}
use Rattle.printing.specs.Reasons.{escaped}
use Rattle.command_line.specs.Requests.{Asked, FromFile, Settings, Source, Spread, settings}
use Rattle.command_line.specs.declared.request.Command.TheVariants.{Run}
use Rattle.command_words.specs.Orders.{AsksToTest}
use Rattle.files.specs.Held.{Bytes, Held, HasText, IsGiven, KeepsOthers, TellsNoProgram, TellsNoText}
use Rattle.failures.specs.Failures.{TellsUnwritten}
use Rattle.failures.specs.Messages.{failure_text}
use Rattle.failures.specs.declared.failure.Failure.{Failure}
use Rattle.failures.specs.declared.failure.Failure.TheVariants.{CannotRead, CannotWriteOutput, NoMemory}
use Rattle.commands.specs.Answers.{AnswersRun, Done, Explains, HasInput, TellsNotBegun}
use Rattle.commands.specs.declared.question.Begun.{Begun}
use Rattle.test_and_bench.specs.Differences.{difference}
use Rattle.test_and_bench.specs.Folders.{Folders}
use Rattle.test_and_bench.specs.Listing.{AreAllNamed, Listed, TellsUnlisted, listed}
use Rattle.test_and_bench.specs.declared.outcomes.Case.{Case}
use Rattle.test_and_bench.specs.declared.trial.Tested.{Tested}
use Rattle.test_and_bench.specs.declared.trial.Trial.{Trial as rTrial}

-- ---- its files

-- a program, and the settings of its runs, apart from the input
pub record Trial : Type 0 where
  pub program : Listed
  pub settings : Settings

abbrev pub trial : rTrial → Trial
trial t = record { program = listed t.program.now; settings = settings t.settings }

-- its file with this ending
abbrev pub file : Trial → (ending : List ℕ) → List ℕ
file t ending = t.program.base ++ ending

-- the file of its input, if there is one
abbrev pub input_file : Trial → Option Source
input_file t = if t.program.has_input then Some (FromFile (file t (codes ".json"))) else None

-- ---- its options

-- how far a program is run, and on how many workers
pub record Limits : Type 0 where
  pub budget : Budget
  pub spread : Spread

-- under these limits
abbrev pub limited : Trial → Limits → Trial
limited t l = record t { settings = record t.settings { budget = l.budget; spread = l.spread } }

-- the lines of its `.args` file are arguments that ask for this, after the name of a program
abbrev pub AsksLines : (text : List ℕ) → Asked → Type 0
AsksLines text a = AsksToTest (codes "test" ∷ codes "-" ∷ lines text) a

-- these are the limits in its `.args` file
pub record HasOptions (held : Held) (t : Trial) (l : Limits) : Type 0 where
  pub text : List ℕ
  pub has_text : HasText held (file t (codes ".args")) text
  pub are : (a : Asked) → AsksLines text a → (l.budget ≡ a.settings.budget) × (l.spread ≡ a.settings.spread)

-- they are those of its `.args` file, if it has one, or those of the whole test
abbrev pub HasLimits : Held → Trial → Limits → Type 0
HasLimits held t l =
    MatchBool t.program.has_options (HasOptions held t l)
    (l ≡ (record { budget = t.settings.budget; spread = t.settings.spread }))

-- the program as it is run
pub record IsLimited (held : Held) (t u : Trial) : Type 0 where
  pub limits : Limits
  pub has : HasLimits held t limits
  pub is : u ≡ limited t limits

-- its `.args` file asks for nothing
pub record LacksOptions (held : Held) (t : Trial) : Type 0 where
  pub has : t.program.has_options ≡ true
  pub text : List ℕ
  pub has_text : HasText held (file t (codes ".args")) text
  pub none : (a : Asked) → AsksLines text a → ⊥

-- the failure says why its `.args` file can't be read
abbrev pub TellsNoOptions : Held → Trial → Failure → Type 0
TellsNoOptions held t f = (t.program.has_options ≡ true) × TellsNoText held (file t (codes ".args")) f

-- ---- one program

-- it runs on its input, and no arrays are shown
abbrev pub settings_of : Trial → Settings
settings_of t = record t.settings { input = input_file t; arrays = false }

-- what a program prints under a budget
abbrev pub told_by : Budget → Program → (input : List (List ℤ)) → List ℕ
told_by b p input = outcome_text p.arrays false (outcome p input b)

-- the text of an outcome of a case's program
abbrev pub text_with : Case → Outcome → List ℕ
text_with c o = outcome_text (code_of c.accepted.now.typed).arrays false o

-- what it prints under its settings
abbrev pub told_in : Case → List ℕ
told_in c = told_by (budget_of c.settings.budget) (code_of c.accepted.now.typed) (lists_of c.input.now)

-- how the text of an outcome differs from the expected output, if it does
abbrev pub differs_with : Case → Outcome → Option (List ℕ)
differs_with c o = difference (text_with c o) c.wanted.now

-- how what it prints differs from the expected output, if it does
abbrev pub differs_in : Case → Option (List ℕ)
differs_in c = difference (told_in c) c.wanted.now

-- its file has a text, of whose program, which has no race, this is the code, and this is its input
pub record IsBegun (held : Held) (t : Trial) (b : Begun) : Type 0 where
  pub text : List ℕ
  pub has_text : HasText held (file t (codes ".afx")) text
  pub given : HasInput (settings_of t) held text (code_of b.accepted.typed) (lists_of b.input)

-- the failure says why it doesn't begin: its file has no text, or the text no accepted program, or that
-- no input
pub data IsRefused (held : Held) (t : Trial) (f : Failure) : Type 0 where
  without_text : TellsNoProgram held (file t (codes ".afx")) f → IsRefused held t f
  not_begun : (text : List ℕ) → HasText held (file t (codes ".afx")) text
      → TellsNotBegun (settings_of t) held text f → IsRefused held t f

-- the line of a program that fails for this reason, with control characters in its name escaped
abbrev pub line_for : Trial → Failure → List ℕ
line_for t f = escaped t.program.shown ++ (codes ".afx: " ++ (failure_text f ++ codes "\n"))

-- the lines of a program of which a text, such as the output, differs in this way from the expected one
abbrev pub lines_of_difference : Trial → (what how : List ℕ) → List ℕ
lines_of_difference t what how = escaped t.program.shown ++ (codes ".afx: " ++ (what ++ (codes " " ++ how)))

-- ---- one that is to be refused

-- its `.err` file has these bytes: how they differ from the message of a failure, if they do
pub record IsMessage (held : Held) (t : Trial) (f : Failure) (how : Option (List ℕ)) : Type 0 where
  pub bytes : List ℕ
  pub given : IsGiven (held (file t (codes ".err"))) (Ok bytes)
  pub how_is : how ≡ difference (failure_text f ++ codes "\n") bytes

-- it is refused: how the message differs from its `.err` file, if it does
pub record IsRefusedAs (held : Held) (t : Trial) (how : Option (List ℕ)) : Type 0 where
  pub failure : Failure
  pub refused : IsRefused held t failure
  pub message : IsMessage held t failure how

-- its lines, if it fails: it is refused with another message, or not at all, or its `.err` file can't be read
pub data IsLineOfRefusal (held : Held) (t : Trial) (line : List ℕ) : Type 0 where
  with_another : (how : List ℕ) → IsRefusedAs held t (Some how) → line ≡ lines_of_difference t (codes "refusal") how
      → IsLineOfRefusal held t line
  not_refused : (b : Begun) → IsBegun held t b → line ≡ escaped t.program.shown ++ codes ".afx: not refused\n"
      → IsLineOfRefusal held t line
  unread : (f : Failure) → TellsNoText held (file t (codes ".err")) f → line ≡ line_for t f
      → IsLineOfRefusal held t line

-- ---- one that is to be run

-- `run` prints this much for its text
pub record Prints (held : Held) (t : Trial) (told : List ℕ) : Type 0 where
  pub text : List ℕ
  pub has_text : HasText held (file t (codes ".afx")) text
  pub status : ℕ
  pub answers : AnswersRun (settings_of t) held text told status

-- its `.out` file has these bytes: how they differ from what it prints, if they do
pub record IsCompared (held : Held) (t : Trial) (how : Option (List ℕ)) : Type 0 where
  pub told : List ℕ
  pub prints : Prints held t told
  pub bytes : List ℕ
  pub given : IsGiven (held (file t (codes ".out"))) (Ok bytes)
  pub how_is : how ≡ difference told bytes

-- the failure says why it prints nothing: it is refused, or `run` fails before it answers
pub data IsUnrun (held : Held) (t : Trial) (f : Failure) : Type 0 where
  refused : IsRefused held t f → IsUnrun held t f
  without_answer : (text : List ℕ) → HasText held (file t (codes ".afx")) text
      → Explains Run (settings_of t) held text f → f ≢ CannotWriteOutput → IsUnrun held t f

-- the failure says why it can't be compared: it prints nothing, or there is no `.out` file
pub data IsUncompared (held : Held) (t : Trial) (f : Failure) : Type 0 where
  unrun : IsUnrun held t f → IsUncompared held t f
  without_output : TellsNoText held (file t (codes ".out")) f → IsUncompared held t f

-- its lines, if it fails
pub data IsLineOfOutput (held : Held) (t : Trial) (line : List ℕ) : Type 0 where
  otherwise : (how : List ℕ) → IsCompared held t (Some how) → line ≡ lines_of_difference t (codes "output") how
      → IsLineOfOutput held t line
  uncompared : (f : Failure) → IsUncompared held t f → line ≡ line_for t f → IsLineOfOutput held t line

-- its line, if it has no options that are understood
pub data IsLineOfOptions (held : Held) (t : Trial) (line : List ℕ) : Type 0 where
  not_understood : LacksOptions held t → line ≡ escaped t.program.shown ++ codes ".afx: options not understood\n"
      → IsLineOfOptions held t line
  options_unread : (f : Failure) → TellsNoOptions held t f → line ≡ line_for t f → IsLineOfOptions held t line

-- run under its limits, it prints what its `.out` file has
pub record Fulfils (held : Held) (t : Trial) : Type 0 where
  pub trial : Trial
  pub is_limited : IsLimited held t trial
  pub compared : IsCompared held trial None

-- its lines, if it fails
pub data IsLineOfRun (held : Held) (t : Trial) (line : List ℕ) : Type 0 where
  of_output : (u : Trial) → IsLimited held t u → IsLineOfOutput held u line → IsLineOfRun held t line
  of_options : IsLineOfOptions held t line → IsLineOfRun held t line

-- ---- either

-- one with an `.err` file is to be refused, and any other is to be run
abbrev pub Passes : Held → Trial → Type 0
Passes held t = MatchBool t.program.is_refused (IsRefusedAs held t None) (Fulfils held t)

abbrev pub IsLine : Held → Trial → (line : List ℕ) → Type 0
IsLine held t line = MatchBool t.program.is_refused (IsLineOfRefusal held t line) (IsLineOfRun held t line)

-- a program without a line passes, and any other has the line of one that fails
abbrev pub HasLine : Held → Trial → Option (String Global) → Type 0
HasLine held t line = MatchOption line (Passes held t) (λ l. IsLine held t (string_bytes l))

-- whether it passes, and its lines: none if it does
abbrev pub IsTested : Held → Trial → (passes : Bool) → (lines : List ℕ) → Type 0
IsTested held t passes lines = MatchBool passes (Passes held t × (lines ≡ [])) (IsLine held t lines)

-- ---- one whose `.out` file is written

-- the file with this name isn't known to have these bytes
abbrev pub Differs : (known : Option Bytes) → (told : List ℕ) → Type 0
Differs known told = (bytes : List ℕ) → known ≡ Some (Ok bytes) → bytes ≢ told

-- its `.out` file has what it prints: it was written, and no other file, or it had these bytes before
pub data IsWritten (held : Held) (t : Trial) (later : Held) (written : Bool) : Type 0 where
  as_it_was : (told : List ℕ) → Prints held t told → IsGiven (held (file t (codes ".out"))) (Ok told)
      → later ≡ held → written ≡ false → IsWritten held t later written
  anew : (told : List ℕ) → Prints held t told → Differs (held (file t (codes ".out"))) told
      → IsGiven (later (file t (codes ".out"))) (Ok told) → KeepsOthers (file t (codes ".out")) held later
      → written ≡ true → IsWritten held t later written

-- the failure says why its `.out` file doesn't have it: it prints nothing, or the file can't be written; of a file
-- that can't be written nothing is known
pub data IsUnwritten (held : Held) (t : Trial) (later : Held) (f : Failure) : Type 0 where
  no_output : IsUnrun held t f → later ≡ held → IsUnwritten held t later f
  unread_output : f ≡ NoMemory → later ≡ held → IsUnwritten held t later f
  not_written : TellsUnwritten (file t (codes ".out")) f → KeepsOthers (file t (codes ".out")) held later
      → IsUnwritten held t later f

-- its line, if its `.out` file was written
abbrev pub line_of_writing : Trial → (written : Bool) → List ℕ
line_of_writing t written = if written then escaped t.program.shown ++ codes ".afx: output written\n" else []

-- whether it passes, and its lines
pub data IsPrinted (held : Held) (t : Trial) (later : Held) (passes : Bool) (lines : List ℕ) : Type 0 where
  printed : (written : Bool) → IsWritten held t later written → passes ≡ true → lines ≡ line_of_writing t written
      → IsPrinted held t later passes lines
  unprinted : (f : Failure) → IsUnwritten held t later f → passes ≡ false → lines ≡ line_for t f
      → IsPrinted held t later passes lines

-- the same, for a program that is run under its limits
pub data IsPrintedSo (held : Held) (t : Trial) (later : Held) (passes : Bool) (lines : List ℕ) : Type 0 where
  under_limits : (u : Trial) → IsLimited held t u → IsPrinted held u later passes lines
      → IsPrintedSo held t later passes lines
  without_limits : IsLineOfOptions held t lines → later ≡ held → passes ≡ false
      → IsPrintedSo held t later passes lines

-- with `--write` the `.out` file of a program that is to be run is written; any other program is tested, and files are
-- unchanged
abbrev pub HasVerdict : (writes : Bool) → Held → Trial → (later : Held) → (passes : Bool) → (lines : List ℕ) → Type 0
HasVerdict writes held t later passes lines =
    MatchBool (writes && not t.program.is_refused) (IsPrintedSo held t later passes lines)
    ((later ≡ held) × IsTested held t passes lines)

-- ---- all of them

-- the result for one program: the name of its file, whether it passes, and its lines
pub record Judged : Type 0 where
  pub file : List ℕ
  pub passes : Bool
  pub lines : List ℕ

abbrev pub judged : Tested → Judged
judged t = record {
  file = string_bytes t.file;
  passes = t.verdict.passes;
  lines = string_bytes t.verdict.lines;
}

-- this is the result for a program, with `--write` or without it
pub record IsJudged (writes : Bool) (held : Held) (t : Trial) (later : Held) (j : Judged) : Type 0 where
  pub file_is : j.file ≡ file t (codes ".afx")
  pub verdict : HasVerdict writes held t later j.passes j.lines

-- these are the results for these programs under these settings, one after the other
pub data AreTested (writes : Bool) (under : Settings) (held : Held)
    : (ps : List Listed) → (js : List Judged) → (later : Held) → Type 0 where
  none : AreTested writes under held [] [] held
  more : (ps : List Listed) (p : Listed) (js : List Judged) (j : Judged) (mid later : Held)
      → AreTested writes under held ps js mid
      → IsJudged writes mid (record { program = p; settings = under }) later j
      → AreTested writes under held (ps ++ p ∷ []) (js ++ j ∷ []) later

-- these are the results for the programs of these names
pub record AreResults (named : Folders) (held : Held) (names : List (List ℕ)) (writes : Bool) (under : Settings)
    (later : Held) (js : List Judged) : Type 0 where
  pub programs : List Listed
  pub all : AreAllNamed named names programs
  pub tested : AreTested writes under held programs js later

-- one more, if it counts
abbrev pub counted : (counts : Bool) → ℕ → ℕ
counted true n = n + 1
counted false n = n

-- how many passed, and how many failed
abbrev pub passed_of : List Judged → ℕ
passed_of [] = 0
passed_of (j ∷ js) = counted j.passes (passed_of js)

abbrev pub failed_of : List Judged → ℕ
failed_of js = length js - passed_of js

-- the last line: `2 passed, 1 failed`
abbrev pub closing : (passed failed : ℕ) → List ℕ
closing n m = decimal n ++ (codes " passed, " ++ (decimal m ++ codes " failed\n"))

-- all lines
abbrev pub results_text : List Judged → List ℕ
results_text js = flat_map (λ j. j.lines) js ++ closing (passed_of js) (failed_of js)

-- 0 if none failed
abbrev pub tested_status : (failed : ℕ) → ℕ
tested_status zero = 0
tested_status (suc n) = 1

-- the programs of these names were tested under these settings, and the results are printed
pub record AnswersTest (named : Folders) (held : Held) (names : List (List ℕ)) (writes : Bool) (under : Settings)
    (later : Held) (told : List ℕ) (status : ℕ) : Type 0 where
  pub judged : List Judged
  pub results : AreResults named held names writes under later judged
  pub told_is : told ≡ results_text judged
  pub status_is : status ≡ tested_status (failed_of judged)

-- why none was tested
abbrev pub ExplainsTest : Folders → (names : List (List ℕ)) → Failure → Type 0
ExplainsTest named names CannotWriteOutput = Unit {0}
ExplainsTest named names NoMemory = Unit {0}
ExplainsTest named names f = TellsUnlisted named names f

-- a failure says why there are no results: a name has no programs, or memory ran out
pub data IsUntested (named : Folders) (held : Held) (names : List (List ℕ)) (writes : Bool) (later : Held)
    (f : Failure) : Type 0 where
  unlisted : TellsUnlisted named names f → later ≡ held → IsUntested named held names writes later f
  without_memory : f ≡ NoMemory → (writes ≡ false → later ≡ held) → IsUntested named held names writes later f

-- files are unchanged without `--write`, and if there is a name without programs
abbrev pub LeavesTested : (writes : Bool) → (held later : Held) → Result ℕ Failure → Type 0
LeavesTested false held later r = later ≡ held
LeavesTested true held later (Err (CannotRead name)) = later ≡ held
LeavesTested true held later r = Unit {0}

-- `test` was done: its answer was written, or there is a reason why not
pub record DoesTest (named : Folders) (held : Held) (names : List (List ℕ)) (writes : Bool) (under : Settings)
    (later : Held) (old new : Option (List ℕ)) (r : Result ℕ Failure) : Type 0 where
  pub done : Done (AnswersTest named held names writes under later) (ExplainsTest named names) old new r
  pub leaves : LeavesTested writes held later r
