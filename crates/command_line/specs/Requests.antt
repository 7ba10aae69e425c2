-- Requests: what the arguments of a command line ask for.
use Rattle.std.specs.Prelude.{ℕ, ◌≡◌, ◌<◌, ◌≤◌, ◌^◌, List, [], ◌∷◌, codes, Bool, true, false, not, Option}
use Rattle.std.specs.Prelude.{None, Some, nat_eq, IsTrue, IfSome, map, option_map, unwrap_or, if◌then◌else◌}
use Rattle.std.specs.String.{string_bytes}
use Rattle.std.specs.Fmt.{decimal}
use Rattle.types.specs.Outcome.{Budget}
use Rattle.types.specs.Translation.{budget as budget_of}
use Rattle.command_line.specs.declared.request.Command.{Command}
use Rattle.command_line.specs.declared.request.Command.TheVariants.{Run, Serial, Check, Pairs, Explore}
use Rattle.command_line.specs.declared.request.Command.TheVariants.{Places, Listing, Labels, Format, Meetings}
use Rattle.command_line.specs.declared.request.Command.TheVariants.{CheckFormat, View, Summary, Draw, Chrome}
use Rattle.command_line.specs.declared.request.Command.TheVariants.{Page, Schedules, Upgrade}
use Rattle.command_line.specs.declared.request.Command.TheVariants.{Cost, CostByLabel, CostByProcedure}
use Rattle.command_line.specs.declared.request.Command.TheVariants.{PairsByLine, ViewByLine, SummaryByLine}
use Rattle.command_line.specs.declared.request.Action.{Action}
use Rattle.command_line.specs.declared.request.Action.TheVariants.{Answer, Rewrite}
use Rattle.command_line.specs.declared.manner.Manner.{Manner}
use Rattle.command_line.specs.declared.request.Color.{Color}
use Rattle.command_line.specs.declared.request.Color.TheVariants.{Auto, Always, Never}
use Rattle.command_line.specs.declared.request.Explain.{Explain}
use Rattle.command_line.specs.declared.request.Explain.TheVariants.{AtTerminal, Always as Explained}
use Rattle.command_line.specs.declared.request.Explain.TheVariants.{Never as Unexplained}
use Rattle.command_line.specs.declared.request.Telling.{Telling}
use Rattle.command_line.specs.declared.request.Choosing.{Choosing as rChoosing}
use Rattle.command_line.specs.declared.request.Choosing.TheVariants.{Listed as rListed, InFile as rInFile}
use Rattle.command_line.specs.declared.request.Choosing.TheVariants.{Random as rRandom}
use Rattle.command_line.specs.declared.request.InputSource.{InputSource as rSource}
use Rattle.command_line.specs.declared.request.InputSource.TheVariants.{File as rFile, Lists as rLists}
use Rattle.command_line.specs.declared.request.InputSource.TheVariants.{Bytes as rBytes}
use Rattle.command_line.specs.declared.request.RunOptions.{RunOptions as rSettings}
use Rattle.command_line.specs.declared.request.Request.{Request}
use Rattle.command_line.specs.declared.request.Spread.{Spread as rSpread}

-- how the leaves that step are chosen: by the text of a list, by a file with this name, or by a generator
-- with this seed
pub data Choosing : Type 0 where
  Listed : (text : List ℕ) → Choosing
  InFile : (name : List ℕ) → Choosing
  Random : (seed : ℕ) → Choosing

abbrev pub choosing : rChoosing → Choosing
choosing (rListed text) = Listed text.now
choosing (rInFile name) = InFile name.now
choosing (rRandom seed) = Random seed

-- where the initial contents of the arrays come from: the JSON text in a file with this name; the lists
-- among these arguments; or the bytes of a file with this name, for the array with that name
pub data Source : Type 0 where
  FromFile : (name : List ℕ) → Source
  FromLists : (words : List (List ℕ)) → Source
  FromBytes : (name file : List ℕ) → Source

abbrev pub source : rSource → Source
source (rFile name) = FromFile name.now
source (rLists words) = FromLists (map string_bytes words.now)
source (rBytes name file) = FromBytes name.now file.now

-- the file of a source, if it has one
abbrev pub source_file : Option Source → Option (List ℕ)
source_file None = None
source_file (Some (FromFile name)) = Some name
source_file (Some (FromLists words)) = None
source_file (Some (FromBytes name file)) = Some file

-- how a run uses worker threads: its maximum of tasks, the weight that a scope issues at a time, and its
-- number of workers
pub record Spread : Type 0 where
  pub tasks : ℕ
  pub w0 : ℕ
  pub workers : ℕ

abbrev pub spread : rSpread → Spread
spread s = record { tasks = s.tasks; w0 = s.w0; workers = s.workers }

-- the settings of a run: the source of the initial contents of its arrays, if there is one; its budget; its
-- worker threads; the source of its choices, if there is one; the file of its trace, to be written or
-- shown, and that of a picture or a page of it, if they are named; whether the arrays are shown; whether its
-- progress is reported
pub record Settings : Type 0 where
  pub input : Option Source
  pub budget : Budget
  pub spread : Spread
  pub choices : Option Choosing
  pub trace : Option (List ℕ)
  pub picture : Option (List ℕ)
  pub arrays : Bool
  pub progress : Bool

-- what to do with the program of a file, and how to report
pub record Asked : Type 0 where
  pub action : Action
  pub file : List ℕ
  pub settings : Settings
  pub telling : Telling

abbrev pub settings : rSettings → Settings
settings s = record {
  input = option_map source s.input;
  budget = budget_of s.budget;
  spread = spread s.spread;
  choices = option_map choosing s.choices;
  trace = option_map (λ name. name.now) s.trace;
  picture = option_map (λ name. name.now) s.picture;
  arrays = s.arrays;
  progress = s.progress;
}

-- the meaning of a request
abbrev pub asked_of : Request → Asked
asked_of r = record {
  action = r.action;
  file = r.file.now;
  settings = settings r.settings;
  telling = r.telling;
}

-- the default budget of a run
abbrev pub usual_budget : Budget
usual_budget = record { steps = 1000000; nest = 100 }

-- the default tasks, weight and workers of a run
abbrev pub usual_spread : Spread
usual_spread = record { tasks = 65536; w0 = 1048576; workers = 4 }

-- the default settings of a command line
abbrev pub usual : Settings
usual = record {
  input = None;
  budget = usual_budget;
  spread = usual_spread;
  choices = None;
  trace = None;
  picture = None;
  arrays = false;
  progress = false;
}

-- how a command line reports by default
abbrev pub usual_telling : Telling
usual_telling = record { explain = AtTerminal; all = false; warn = AtTerminal; color = Auto }

-- whether explanations, or warnings, follow, by whether the standard error is a terminal
abbrev pub is_explained : Explain → (at_terminal : Bool) → Bool
is_explained AtTerminal at_terminal = at_terminal
is_explained Explained at_terminal = true
is_explained Unexplained at_terminal = false

-- ---- arguments

-- a file's name doesn't start with `-`, or it is `-` alone, the standard input
abbrev pub is_file_name : List ℕ → Bool
is_file_name [] = true
is_file_name (c ∷ []) = true
is_file_name (c ∷ d ∷ rest) = not (nat_eq c 45)

-- what can follow the file of a program: the options of a run, and the file of its trace
pub record Options : Type 0 where
  pub input : Option (List ℕ)
  pub steps : Option ℕ
  pub nest : Option ℕ
  pub tasks : Option ℕ
  pub w0 : Option ℕ
  pub workers : Option ℕ
  pub choices : Option Choosing
  pub trace : Option (List ℕ)
  pub picture : Option (List ℕ)
  pub arrays : Bool
  pub progress : Bool

-- none of them
abbrev pub no_options : Options
no_options = record {
  input = None;
  steps = None;
  nest = None;
  tasks = None;
  w0 = None;
  workers = None;
  choices = None;
  trace = None;
  picture = None;
  arrays = false;
  progress = false;
}

-- a file of choices has a file's name, and a seed is a number of 64 bits
abbrev pub IsRightChoosing : Choosing → Type 0
IsRightChoosing (Listed text) = Unit {0}
IsRightChoosing (InFile name) = IsTrue (is_file_name name)
IsRightChoosing (Random seed) = seed < 2 ^ 64

-- a file that an option names has a file's name
abbrev pub IsRightFile : Option (List ℕ) → Type 0
IsRightFile file = IfSome file (λ name. IsTrue (is_file_name name))

-- files have file names, and numbers are in range
pub record AreRight (o : Options) : Type 0 where
  pub input : IsRightFile o.input
  pub steps : IfSome o.steps (λ n. (1 ≤ n) × (n ≤ 1000000000))
  pub nest : IfSome o.nest (λ n. n ≤ 1000)
  pub tasks : IfSome o.tasks (λ n. (1 ≤ n) × (n ≤ 1048576))
  pub w0 : IfSome o.w0 (λ n. (1 ≤ n) × (n ≤ 4294967296))
  pub workers : IfSome o.workers (λ n. (1 ≤ n) × (n ≤ 64))
  pub choices : IfSome o.choices IsRightChoosing
  pub trace : IsRightFile o.trace
  pub picture : IsRightFile o.picture

-- the values of options as texts
pub record Texts : Type 0 where
  pub input : Option (List ℕ)
  pub steps : Option (List ℕ)
  pub nest : Option (List ℕ)
  pub tasks : Option (List ℕ)
  pub w0 : Option (List ℕ)
  pub workers : Option (List ℕ)
  pub choices : Option (List ℕ)
  pub choices_from : Option (List ℕ)
  pub random : Option (List ℕ)
  pub trace : Option (List ℕ)
  pub picture : Option (List ℕ)
  pub arrays : Bool
  pub progress : Bool

-- the list, the file or the seed that choices come from
abbrev pub list_of : Option Choosing → Option (List ℕ)
list_of None = None
list_of (Some (Listed text)) = Some text
list_of (Some (InFile name)) = None
list_of (Some (Random seed)) = None

abbrev pub file_of : Option Choosing → Option (List ℕ)
file_of None = None
file_of (Some (Listed text)) = None
file_of (Some (InFile name)) = Some name
file_of (Some (Random seed)) = None

abbrev pub seed_of : Option Choosing → Option ℕ
seed_of None = None
seed_of (Some (Listed text)) = None
seed_of (Some (InFile name)) = None
seed_of (Some (Random seed)) = Some seed

-- numbers in decimal
abbrev pub texts_by : Options → Texts
texts_by o = record {
  input = o.input;
  steps = option_map decimal o.steps;
  nest = option_map decimal o.nest;
  tasks = option_map decimal o.tasks;
  w0 = option_map decimal o.w0;
  workers = option_map decimal o.workers;
  choices = list_of o.choices;
  choices_from = file_of o.choices;
  random = option_map decimal (seed_of o.choices);
  trace = o.trace;
  picture = o.picture;
  arrays = o.arrays;
  progress = o.progress;
}

-- an option and its value
abbrev pub valued : (option : List ℕ) → (value : Option (List ℕ)) → (behind : List (List ℕ)) → List (List ℕ)
valued option None behind = behind
valued option (Some value) behind = option ∷ value ∷ behind

-- an option without a value
abbrev pub flagged : (option : List ℕ) → Bool → (behind : List (List ℕ)) → List (List ℕ)
flagged option true behind = option ∷ behind
flagged option false behind = behind

-- the arguments for the options of a parallel run, in this order:
-- `--input FILE --steps N --nest N --tasks N --w0 N --workers N --trace FILE --arrays`
abbrev pub words_of : Texts → List (List ℕ)
words_of t =
    valued (codes "--input") t.input (valued (codes "--steps") t.steps
    (valued (codes "--nest") t.nest (valued (codes "--tasks") t.tasks
    (valued (codes "--w0") t.w0 (valued (codes "--workers") t.workers
    (valued (codes "--trace") t.trace (flagged (codes "--arrays") t.arrays [])))))))

-- those of a run on one thread, in this order: `--input FILE --steps N --nest N --arrays --progress`
abbrev pub serial_words_of : Texts → List (List ℕ)
serial_words_of t =
    valued (codes "--input") t.input (valued (codes "--steps") t.steps
    (valued (codes "--nest") t.nest
    (flagged (codes "--arrays") t.arrays (flagged (codes "--progress") t.progress []))))

-- those of a run by choices, in this order: `--input FILE`, one of `--choices LIST`,
-- `--choices-from FILE` and `--random SEED`, and `--arrays`
abbrev pub choosing_words_of : Texts → List (List ℕ)
choosing_words_of t =
    valued (codes "--input") t.input
    (valued (codes "--choices") t.choices (valued (codes "--choices-from") t.choices_from
    (valued (codes "--random") t.random (flagged (codes "--arrays") t.arrays []))))

-- those of a run that is measured, in this order: `--input FILE --steps N --nest N`, and others after them
abbrev pub measured_words_behind : Texts → (behind : List (List ℕ)) → List (List ℕ)
measured_words_behind t behind =
    valued (codes "--input") t.input
    (valued (codes "--steps") t.steps (valued (codes "--nest") t.nest behind))

abbrev pub measured_words_of : Texts → List (List ℕ)
measured_words_of t = measured_words_behind t []

-- a run has no budget
pub record HasNoBudget (o : Options) : Type 0 where
  pub steps : o.steps ≡ None
  pub nest : o.nest ≡ None

-- it has no options for worker threads
pub record HasNoSpread (o : Options) : Type 0 where
  pub tasks : o.tasks ≡ None
  pub w0 : o.w0 ≡ None
  pub workers : o.workers ≡ None

-- no trace of it is written or shown
pub record HasNoTrace (o : Options) : Type 0 where
  pub trace : o.trace ≡ None
  pub picture : o.picture ≡ None

-- options of a parallel run: it isn't by choices, its progress isn't reported, and no picture is drawn of
-- it
pub record AreForRun (o : Options) : Type 0 where
  pub right : AreRight o
  pub choices : o.choices ≡ None
  pub picture : o.picture ≡ None
  pub progress : o.progress ≡ false

-- of a one-thread run: it has no worker threads, isn't by choices, and has no trace
pub record AreForSerial (o : Options) : Type 0 where
  pub right : AreRight o
  pub spread : HasNoSpread o
  pub choices : o.choices ≡ None
  pub trace : HasNoTrace o

-- of a run by choices: it has no budget, no worker threads, no trace, and no progress reports
pub record AreForExplore (o : Options) : Type 0 where
  pub right : AreRight o
  pub budget : HasNoBudget o
  pub spread : HasNoSpread o
  pub trace : HasNoTrace o
  pub progress : o.progress ≡ false

-- of a run that is measured: it has no worker threads, isn't by choices, has no trace, shows no arrays, and
-- has no progress reports
pub record AreForMeasuring (o : Options) : Type 0 where
  pub right : AreRight o
  pub spread : HasNoSpread o
  pub choices : o.choices ≡ None
  pub trace : HasNoTrace o
  pub arrays : o.arrays ≡ false
  pub progress : o.progress ≡ false

-- the settings that they specify; the default is used for all others
abbrev pub settings_by : Options → Settings
settings_by o = record {
  input = option_map FromFile o.input;
  budget = record { steps = unwrap_or o.steps 1000000; nest = unwrap_or o.nest 100 };
  spread = record {
    tasks = unwrap_or o.tasks 65536;
    w0 = unwrap_or o.w0 1048576;
    workers = unwrap_or o.workers 4;
  };
  choices = o.choices;
  trace = o.trace;
  picture = o.picture;
  arrays = o.arrays;
  progress = o.progress;
}

-- ---- a trace that is shown

-- how it is shown: as a table, by its numbers, both also with statements, as a picture in a file, in a file for a
-- trace viewer, as a page, or as a table and in a file of format 2
pub data Showing : Type 0 where
  AsTable : Showing
  ByLine : Showing
  ByNumbers : Showing
  NumbersByLine : Showing
  AsPicture : (out : List ℕ) → Showing
  ForViewer : (out : List ℕ) → Showing
  AsPage : (out : List ℕ) → Showing
  InFormatTwo : (out : List ℕ) → Showing

-- the arguments for it
abbrev pub showing_words : Showing → List (List ℕ)
showing_words AsTable = []
showing_words ByLine = codes "--by-line" ∷ []
showing_words ByNumbers = codes "--summary" ∷ []
showing_words NumbersByLine = codes "--summary" ∷ codes "--by-line" ∷ []
showing_words (AsPicture out) = codes "--svg" ∷ out ∷ []
showing_words (ForViewer out) = codes "--chrome" ∷ out ∷ []
showing_words (AsPage out) = codes "--html" ∷ out ∷ []
showing_words (InFormatTwo out) = codes "--upgrade" ∷ out ∷ []

abbrev pub command_for : Showing → Command
command_for AsTable = View
command_for ByLine = ViewByLine
command_for ByNumbers = Summary
command_for NumbersByLine = SummaryByLine
command_for (AsPicture out) = Draw
command_for (ForViewer out) = Chrome
command_for (AsPage out) = Page
command_for (InFormatTwo out) = Upgrade

-- the file of the picture, or of the trace in format 2
abbrev pub picture_of : Showing → Option (List ℕ)
picture_of AsTable = None
picture_of ByLine = None
picture_of ByNumbers = None
picture_of NumbersByLine = None
picture_of (AsPicture out) = Some out
picture_of (ForViewer out) = Some out
picture_of (AsPage out) = Some out
picture_of (InFormatTwo out) = Some out

-- the file of the trace, that of the initial contents of the arrays, if one is named, and how it is shown
pub record Viewing : Type 0 where
  pub trace : List ℕ
  pub input : Option (List ℕ)
  pub shown : Showing

-- the arguments after the file of its program: `TRACE --input FILE`, and how it is shown
abbrev pub viewing_words : Viewing → List (List ℕ)
viewing_words v = v.trace ∷ valued (codes "--input") v.input (showing_words v.shown)

-- the options that they specify
abbrev pub viewing_options : Viewing → Options
viewing_options v =
    record no_options { input = v.input; trace = Some v.trace; picture = picture_of v.shown }

-- ---- a page in which each step is chosen

-- the arguments after the file of its program, in this order: `--input FILE --html OUT`
abbrev pub schedule_words : (input : Option (List ℕ)) → (out : List ℕ) → List (List ℕ)
schedule_words input out = valued (codes "--input") input (codes "--html" ∷ out ∷ [])

-- the options that they specify
abbrev pub schedule_options : (input : Option (List ℕ)) → (out : List ℕ) → Options
schedule_options input out = record no_options { input = input; picture = Some out }

-- ---- the shares of a run that is measured

-- which shares follow the total cost: those of each label, or of each procedure
pub data Parts : Type 0 where
  ByLabel : Parts
  ByProcedure : Parts

-- the argument for it
abbrev pub parts_word : Parts → List ℕ
parts_word ByLabel = codes "--by-line"
parts_word ByProcedure = codes "--by-procedure"

abbrev pub command_by : Parts → Command
command_by ByLabel = CostByLabel
command_by ByProcedure = CostByProcedure

-- ---- requests

-- something is done with a file, with options
abbrev pub acting : Action → (file : List ℕ) → Options → Asked
acting action file o =
    record { action = action; file = file; settings = settings_by o; telling = usual_telling }

-- a command with only a file
abbrev pub plain : Command → (file : List ℕ) → Asked
plain command file = acting (Answer command) file no_options

-- a command with a file and options after it
abbrev pub optioned : Command → (file : List ℕ) → Options → Asked
optioned command file o = acting (Answer command) file o

-- a text is formatted in its file
abbrev pub rewriting : (file : List ℕ) → Asked
rewriting file = acting Rewrite file no_options

-- the arguments request this, in this order, without reporting options
pub data AsksPlainly (words : List (List ℕ)) (a : Asked) : Type 0 where
  to_run : (file : List ℕ) (o : Options) → IsTrue (is_file_name file) → AreForRun o
      → words ≡ codes "run" ∷ file ∷ words_of (texts_by o) → a ≡ optioned Run file o → AsksPlainly words a
  to_run_on_one_thread : (file : List ℕ) (o : Options) → IsTrue (is_file_name file) → AreForSerial o
      → words ≡ codes "serial" ∷ file ∷ serial_words_of (texts_by o) → a ≡ optioned Serial file o
      → AsksPlainly words a
  to_check : (file : List ℕ) → IsTrue (is_file_name file)
      → words ≡ codes "check" ∷ file ∷ [] → a ≡ plain Check file → AsksPlainly words a
  to_list : (file : List ℕ) → IsTrue (is_file_name file)
      → words ≡ codes "check" ∷ codes "--list" ∷ file ∷ [] → a ≡ plain Listing file → AsksPlainly words a
  to_list_behind : (file : List ℕ) → IsTrue (is_file_name file)
      → words ≡ codes "check" ∷ file ∷ codes "--list" ∷ [] → a ≡ plain Listing file → AsksPlainly words a
  to_label : (file : List ℕ) → IsTrue (is_file_name file)
      → words ≡ codes "list" ∷ file ∷ [] → a ≡ plain Labels file → AsksPlainly words a
  to_place : (file : List ℕ) → IsTrue (is_file_name file)
      → words ≡ codes "list" ∷ codes "--lines" ∷ file ∷ [] → a ≡ plain Places file → AsksPlainly words a
  to_place_behind : (file : List ℕ) → IsTrue (is_file_name file)
      → words ≡ codes "list" ∷ file ∷ codes "--lines" ∷ [] → a ≡ plain Places file → AsksPlainly words a
  to_format : (file : List ℕ) → IsTrue (is_file_name file)
      → words ≡ codes "fmt" ∷ file ∷ [] → a ≡ plain Format file → AsksPlainly words a
  to_check_format : (file : List ℕ) → IsTrue (is_file_name file)
      → words ≡ codes "fmt" ∷ codes "--check" ∷ file ∷ [] → a ≡ plain CheckFormat file → AsksPlainly words a
  to_check_format_behind : (file : List ℕ) → IsTrue (is_file_name file)
      → words ≡ codes "fmt" ∷ file ∷ codes "--check" ∷ [] → a ≡ plain CheckFormat file → AsksPlainly words a
  to_rewrite : (file : List ℕ) → IsTrue (is_file_name file)
      → words ≡ codes "fmt" ∷ codes "--write" ∷ file ∷ [] → a ≡ rewriting file → AsksPlainly words a
  to_rewrite_behind : (file : List ℕ) → IsTrue (is_file_name file)
      → words ≡ codes "fmt" ∷ file ∷ codes "--write" ∷ [] → a ≡ rewriting file → AsksPlainly words a
  to_pair : (file : List ℕ) → IsTrue (is_file_name file)
      → words ≡ codes "mhp" ∷ file ∷ [] → a ≡ plain Pairs file → AsksPlainly words a
  to_meet : (file : List ℕ) → IsTrue (is_file_name file)
      → words ≡ codes "mhp" ∷ codes "--accesses" ∷ file ∷ [] → a ≡ plain Meetings file → AsksPlainly words a
  to_meet_behind : (file : List ℕ) → IsTrue (is_file_name file)
      → words ≡ codes "mhp" ∷ file ∷ codes "--accesses" ∷ [] → a ≡ plain Meetings file → AsksPlainly words a
  to_pair_by_line : (file : List ℕ) → IsTrue (is_file_name file)
      → words ≡ codes "mhp" ∷ codes "--by-line" ∷ file ∷ [] → a ≡ plain PairsByLine file → AsksPlainly words a
  to_pair_by_line_behind : (file : List ℕ) → IsTrue (is_file_name file)
      → words ≡ codes "mhp" ∷ file ∷ codes "--by-line" ∷ [] → a ≡ plain PairsByLine file → AsksPlainly words a
  to_cost : (file : List ℕ) (o : Options) → IsTrue (is_file_name file) → AreForMeasuring o
      → words ≡ codes "cost" ∷ file ∷ measured_words_of (texts_by o) → a ≡ optioned Cost file o
      → AsksPlainly words a
  to_cost_by : (file : List ℕ) (o : Options) (parts : Parts) → IsTrue (is_file_name file) → AreForMeasuring o
      → words ≡ codes "cost" ∷ file ∷ measured_words_behind (texts_by o) (parts_word parts ∷ [])
      → a ≡ optioned (command_by parts) file o → AsksPlainly words a
  to_explore : (file : List ℕ) (o : Options) → IsTrue (is_file_name file) → AreForExplore o
      → words ≡ codes "explore" ∷ file ∷ choosing_words_of (texts_by o) → a ≡ optioned Explore file o
      → AsksPlainly words a
  to_choose : (file : List ℕ) (input : Option (List ℕ)) (out : List ℕ) → IsTrue (is_file_name file)
      → AreRight (schedule_options input out)
      → words ≡ codes "explore" ∷ file ∷ schedule_words input out
      → a ≡ optioned Schedules file (schedule_options input out) → AsksPlainly words a
  to_view : (file : List ℕ) (v : Viewing) → IsTrue (is_file_name file) → AreRight (viewing_options v)
      → words ≡ codes "view" ∷ file ∷ viewing_words v
      → a ≡ optioned (command_for v.shown) file (viewing_options v) → AsksPlainly words a

-- ---- reporting options

abbrev pub color_word : Color → List ℕ
color_word Auto = codes "auto"
color_word Always = codes "always"
color_word Never = codes "never"

-- no reporting options
abbrev pub no_manner : Manner
no_manner = record { explain = false; color = None }

-- the arguments for them, in this order: `--explain --color WHEN`, and others after them
abbrev pub manner_words : Manner → (behind : List (List ℕ)) → List (List ℕ)
manner_words m behind =
    flagged (codes "--explain") m.explain
    (valued (codes "--color") (option_map color_word m.color) behind)

-- how to report with these options; the default is used for all others
abbrev pub telling_by : Manner → Telling
telling_by m = record {
  explain = if m.explain then Explained else AtTerminal;
  all = false;
  warn = AtTerminal;
  color = unwrap_or m.color Auto;
}

-- the request with these reporting options
abbrev pub told_so : Manner → Asked → Asked
told_so m a = record a { telling = telling_by m }

-- the arguments request this; reporting options can follow the command. No arguments mean `run -`
pub data Asks (words : List (List ℕ)) (a : Asked) : Type 0 where
  by_no_word : words ≡ [] → a ≡ plain Run (codes "-") → Asks words a
  by_command : (command : List ℕ) (m : Manner) (behind : List (List ℕ)) (b : Asked)
      → AsksPlainly (command ∷ behind) b → words ≡ command ∷ manner_words m behind → a ≡ told_so m b
      → Asks words a
