-- How plain arguments are parsed: a command, a file and options.
use Rattle.std.specs.Prelude.{ℕ, ◌&&◌, List, [], ◌∷◌, Bool, true, false, codes, if◌then◌else◌}
use Rattle.std.specs.Prelude.{Option, Some, None, option_map}
use Rattle.std.specs.Borrow.{Bor}
use Rattle.std.specs.Str.{bytes_eq}
use Rattle.command_line.specs.Requests.{Texts, is_file_name, no_manner, no_options, texts_by}
use Rattle.command_line.specs.declared.manner.Manner.{Manner}
use Rattle.command_line.specs.declared.request.Color.{Color}
use Rattle.command_line.specs.declared.request.Color.TheVariants.{Auto, Always, Never}
use Rattle.command_line.specs.declared.request.Action.{Action}
use Rattle.command_line.specs.declared.request.Action.TheVariants.{Answer, Rewrite}
use Rattle.command_line.specs.declared.request.Command.TheVariants.{Run, Serial, Check, Pairs, Explore}
use Rattle.command_line.specs.declared.request.Command.TheVariants.{Listing, Chrome, Labels, Format, Meetings}
use Rattle.command_line.specs.declared.request.Command.TheVariants.{CheckFormat, CostByLabel, Summary, View}
use Rattle.command_line.specs.declared.request.Command.TheVariants.{Cost, CostByProcedure, Places, Draw, Page}
use Rattle.command_line.specs.declared.request.Command.TheVariants.{Schedules, Upgrade}
use Rattle.command_line.specs.declared.request.Command.TheVariants.{PairsByLine, ViewByLine, SummaryByLine}
use Rattle.command_words.specs.declared.plain.PlainLine.{PlainLine as rLine}
use Rattle.command_words.specs.declared.plain.Texts.{Texts as rTexts}

-- the action, a file, and the values of options
pub record Line : Type 0 where
  pub action : Action
  pub file : List ℕ
  pub texts : Texts

abbrev pub texts_of : rTexts → Texts
texts_of t = record {
  input = option_map (λ s. s.now) t.input;
  steps = option_map (λ s. s.now) t.steps;
  nest = option_map (λ s. s.now) t.nest;
  tasks = option_map (λ s. s.now) t.tasks;
  w0 = option_map (λ s. s.now) t.w0;
  workers = option_map (λ s. s.now) t.workers;
  choices = option_map (λ s. s.now) t.choices;
  choices_from = option_map (λ s. s.now) t.choices_from;
  random = option_map (λ s. s.now) t.random;
  trace = option_map (λ s. s.now) t.trace;
  picture = option_map (λ s. s.now) t.picture;
  arrays = t.arrays;
  progress = t.progress;
}

abbrev pub line_of : rLine → Line
line_of l = record { action = l.action; file = l.file.now; texts = texts_of l.texts }

-- a line and its reporting options
abbrev pub told_line : rLine × Manner → Line × Manner
told_line told = (line_of told.0, told.1)

-- how to show a trace, and the file for its picture
abbrev pub shown_of : Action × Option (Bor (List ℕ)) → Action × Option (List ℕ)
shown_of shown = (shown.0, option_map (λ name. name.now) shown.1)

-- the values for no options
abbrev pub no_texts : Texts
no_texts = texts_by no_options

-- a line without options
abbrev pub bare : Action → (file : List ℕ) → Line
bare action file = record { action = action; file = file; texts = no_texts }

-- the value of an option that comes first, and the arguments after it
abbrev pub taken : (option : List ℕ) → List (List ℕ) → Option (List ℕ) × List (List ℕ)
taken option [] = (None, [])
taken option (word ∷ []) = (None, word ∷ [])
taken option (word ∷ value ∷ behind) =
    if bytes_eq word option then (Some value, behind) else (None, word ∷ value ∷ behind)

-- whether an option without a value comes first, and the arguments after it
abbrev pub flag_taken : (option : List ℕ) → List (List ℕ) → Bool × List (List ℕ)
flag_taken option [] = (false, [])
flag_taken option (word ∷ behind) =
    if bytes_eq word option then (true, behind) else (false, word ∷ behind)

-- what was parsed, if no argument is left
abbrev pub read_whole : Texts → (left : List (List ℕ)) → Option Texts
read_whole texts [] = Some texts
read_whole texts (word ∷ behind) = None

-- the options of a parallel run
abbrev pub read_texts : List (List ℕ) → Option Texts
read_texts words =
    let input = taken (codes "--input") words in
    let steps = taken (codes "--steps") input.1 in
    let nest = taken (codes "--nest") steps.1 in
    let tasks = taken (codes "--tasks") nest.1 in
    let w0 = taken (codes "--w0") tasks.1 in
    let workers = taken (codes "--workers") w0.1 in
    let trace = taken (codes "--trace") workers.1 in
    let arrays = flag_taken (codes "--arrays") trace.1 in
    read_whole
    (record no_texts {
      input = input.0;
      steps = steps.0;
      nest = nest.0;
      tasks = tasks.0;
      w0 = w0.0;
      workers = workers.0;
      trace = trace.0;
      arrays = arrays.0;
    }) arrays.1

-- the options of a run on one thread
abbrev pub read_serial_texts : List (List ℕ) → Option Texts
read_serial_texts words =
    let input = taken (codes "--input") words in
    let steps = taken (codes "--steps") input.1 in
    let nest = taken (codes "--nest") steps.1 in
    let arrays = flag_taken (codes "--arrays") nest.1 in
    let progress = flag_taken (codes "--progress") arrays.1 in
    read_whole
    (record no_texts {
      input = input.0;
      steps = steps.0;
      nest = nest.0;
      arrays = arrays.0;
      progress = progress.0;
    }) progress.1

-- the options of a run by choices
abbrev pub read_choosing : List (List ℕ) → Option Texts
read_choosing words =
    let input = taken (codes "--input") words in
    let choices = taken (codes "--choices") input.1 in
    let choices_from = taken (codes "--choices-from") choices.1 in
    let random = taken (codes "--random") choices_from.1 in
    let arrays = flag_taken (codes "--arrays") random.1 in
    read_whole
    (record no_texts {
      input = input.0;
      choices = choices.0;
      choices_from = choices_from.0;
      random = random.0;
      arrays = arrays.0;
    }) arrays.1

-- how to show a trace, as one argument specifies it
abbrev pub shown_by_one : (one : List ℕ) → Option (Action × Option (List ℕ))
shown_by_one one =
    if bytes_eq one (codes "--summary") then Some ((Answer Summary), None) else
    (if bytes_eq one (codes "--by-line") then Some ((Answer ViewByLine), None) else None)

-- and two arguments
abbrev pub shown_by_two : (option out : List ℕ) → Option (Action × Option (List ℕ))
shown_by_two option out =
    if bytes_eq option (codes "--svg") then Some ((Answer Draw), Some out) else
    (if bytes_eq option (codes "--chrome") then Some ((Answer Chrome), Some out) else
    (if bytes_eq option (codes "--html") then Some ((Answer Page), Some out) else
    (if bytes_eq option (codes "--upgrade") then Some ((Answer Upgrade), Some out) else
    (if bytes_eq option (codes "--summary") && bytes_eq out (codes "--by-line")
    then Some ((Answer SummaryByLine), None) else None))))

-- how to show a trace, as arguments specify it
abbrev pub read_showing : List (List ℕ) → Option (Action × Option (List ℕ))
read_showing [] = Some ((Answer View), None)
read_showing (one ∷ []) = shown_by_one one
read_showing (option ∷ out ∷ []) = shown_by_two option out
read_showing (option ∷ out ∷ third ∷ behind) = None

-- the arguments after a command that takes options: a file, and the values of its options
abbrev pub read_optioned : Action → (file : List ℕ) → (read : Option Texts) → Option Line
read_optioned action file read =
    if is_file_name file
    then option_map (λ texts. let line : Line = record {
      action = action;
      file = file;
      texts = texts;
    } in line) read else None

-- a command with only a file
abbrev pub read_file : Action → (file : List ℕ) → Option Line
read_file action file =
    if is_file_name file then Some (bare action file) else None

-- the two arguments after a command, one of which is its option
abbrev pub read_flagged : (flag : List ℕ) → (flagged : Action) → (one other : List ℕ) → Option Line
read_flagged flag flagged one other =
    if bytes_eq one flag && is_file_name other then Some (bare flagged other) else
    (if bytes_eq other flag then read_file flagged one else None)

-- the arguments after a command with one option, which selects another command
abbrev pub read_flaggable : Action → (flag : List ℕ) → (flagged : Action) → (one : List ℕ)
    → (others : List (List ℕ)) → Option Line
read_flaggable action flag flagged one [] = read_file action one
read_flaggable action flag flagged one (other ∷ []) = read_flagged flag flagged one other
read_flaggable action flag flagged one (other ∷ third ∷ behind) = None

-- the first of two lines, or the second if there is no first
abbrev pub either : Option Line → Option Line → Option Line
either None second = second
either (Some first) second = Some first

-- the arguments after `fmt`
abbrev pub read_format : (one : List ℕ) → (others : List (List ℕ)) → Option Line
read_format one [] = read_file (Answer Format) one
read_format one (other ∷ []) =
    either (read_flagged (codes "--check") (Answer CheckFormat) one other)
    (read_flagged (codes "--write") Rewrite one other)
read_format one (other ∷ third ∷ behind) = None

-- the arguments after `mhp`
abbrev pub read_pairs : (one : List ℕ) → (others : List (List ℕ)) → Option Line
read_pairs one [] = read_file (Answer Pairs) one
read_pairs one (other ∷ []) =
    either (read_flagged (codes "--accesses") (Answer Meetings) one other)
    (read_flagged (codes "--by-line") (Answer PairsByLine) one other)
read_pairs one (other ∷ third ∷ behind) = None

-- the arguments after the trace to be shown, and how to show it
abbrev pub shown_line : (file trace : List ℕ) → (input : Option (List ℕ)) → Action × Option (List ℕ)
    → Option Line
shown_line file trace input shown =
    read_optioned shown.0 file
    (Some (record no_texts { input = input; trace = Some trace; picture = shown.1 }))

abbrev pub shown_if : (file trace : List ℕ) → (input : Option (List ℕ))
    → Option (Action × Option (List ℕ)) → Option Line
shown_if file trace input None = None
shown_if file trace input (Some shown) = shown_line file trace input shown

-- the arguments after the file of a program whose trace is shown
abbrev pub read_view : (file : List ℕ) → (behind : List (List ℕ)) → Option Line
read_view file [] = None
read_view file (trace ∷ options) =
    let input = taken (codes "--input") options in
    shown_if file trace input.0 (read_showing input.1)

-- the arguments after the file of a program whose steps are chosen: with a file that was named for a page of
-- schedules, nothing else may follow; without one, options for the choices
abbrev pub chosen_if : (file : List ℕ) → (input page : Option (List ℕ)) → (left behind : List (List ℕ))
    → Option Line
chosen_if file input None left behind = read_optioned (Answer Explore) file (read_choosing behind)
chosen_if file input (Some out) left behind =
    read_optioned (Answer Schedules) file
    (read_whole (record no_texts { input = input; picture = Some out }) left)

abbrev pub read_explore : (file : List ℕ) → (behind : List (List ℕ)) → Option Line
read_explore file behind =
    let input = taken (codes "--input") behind in
    let page = taken (codes "--html") input.1 in
    chosen_if file input.0 page.0 page.1 behind

-- which shares of a cost are shown, as arguments specify it
abbrev pub read_parts : List (List ℕ) → Option Action
read_parts [] = Some (Answer Cost)
read_parts (one ∷ []) =
    if bytes_eq one (codes "--by-line") then Some (Answer CostByLabel) else
    (if bytes_eq one (codes "--by-procedure") then Some (Answer CostByProcedure) else None)
read_parts (one ∷ other ∷ behind) = None

-- the arguments after the file of a program whose run is measured, with these shares
abbrev pub measured_if : (file : List ℕ) → Texts → Option Action → Option Line
measured_if file texts None = None
measured_if file texts (Some action) = read_optioned action file (Some texts)

abbrev pub read_cost : (file : List ℕ) → (behind : List (List ℕ)) → Option Line
read_cost file words =
    let input = taken (codes "--input") words in
    let steps = taken (codes "--steps") input.1 in
    let nest = taken (codes "--nest") steps.1 in
    measured_if file (record no_texts { input = input.0; steps = steps.0; nest = nest.0 })
    (read_parts nest.1)

-- the arguments after a command
abbrev pub read_behind : (command file : List ℕ) → (behind : List (List ℕ)) → Option Line
read_behind command file behind =
    if bytes_eq command (codes "run") then read_optioned (Answer Run) file (read_texts behind) else
    (if bytes_eq command (codes "serial")
    then read_optioned (Answer Serial) file (read_serial_texts behind) else
    (if bytes_eq command (codes "check")
    then read_flaggable (Answer Check) (codes "--list") (Answer Listing) file behind else
    (if bytes_eq command (codes "list")
    then read_flaggable (Answer Labels) (codes "--lines") (Answer Places) file behind else
    (if bytes_eq command (codes "mhp") then read_pairs file behind else
    (if bytes_eq command (codes "fmt") then read_format file behind else
    (if bytes_eq command (codes "explore") then read_explore file behind else
    (if bytes_eq command (codes "view") then read_view file behind else
    (if bytes_eq command (codes "cost") then read_cost file behind else None))))))))

-- the arguments after a command, without the reporting options
abbrev pub read_rest : (command : List ℕ) → (words : List (List ℕ)) → Option Line
read_rest command [] = None
read_rest command (file ∷ behind) = read_behind command file behind

-- ---- reporting options

-- the color that an argument names, if it names one
abbrev pub read_color : Option (List ℕ) → Option (Option Color)
read_color None = Some None
read_color (Some word) =
    if bytes_eq word (codes "auto") then Some (Some Auto) else
    (if bytes_eq word (codes "always") then Some (Some Always) else
    (if bytes_eq word (codes "never") then Some (Some Never) else None))

-- what was parsed, if the color is one
abbrev pub manner_if : (explain : Bool) → Option (Option Color) → (left : List (List ℕ))
    → Option (Manner × List (List ℕ))
manner_if explain None left = None
manner_if explain (Some color) left =
    Some ((let m : Manner = record { explain = explain; color = color } in m), left)

-- the reporting options that arguments specify, and the arguments after them
abbrev pub read_manner : List (List ℕ) → Option (Manner × List (List ℕ))
read_manner words =
    let explain = flag_taken (codes "--explain") words in
    let color = taken (codes "--color") explain.1 in
    manner_if explain.0 (read_color color.0) color.1

-- ---- the whole line

abbrev pub read_by : (command : List ℕ) → Option (Manner × List (List ℕ)) → Option (Line × Manner)
read_by command None = None
read_by command (Some read) = option_map (λ l. (l, read.0)) (read_rest command read.1)

-- the arguments of a command line, and its reporting options
abbrev pub read : List (List ℕ) → Option (Line × Manner)
read [] = Some (bare (Answer Run) (codes "-"), no_manner)
read (command ∷ behind) = read_by command (read_manner behind)
