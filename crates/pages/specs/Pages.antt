-- Which page has a word, and the text of a page.
use Rattle.std.specs.Prelude.{ℕ, List, [], ◌++◌, ◌||◌, Bool, Option, None, Some, codes}
use Rattle.std.specs.Borrow.{Bor}
use Rattle.std.specs.List.{flat_map, list_any}
use Rattle.std.specs.Str.{bytes_eq}
use Rattle.pages.specs.declared.page.Page.{Page}
use Rattle.pages.specs.declared.page.SampleWithInput.{SampleWithInput}
use Rattle.pages.specs.declared.page.Sample.{Sample}
use Rattle.pages.specs.declared.page.Traced.{Traced}
use Rattle.pages.specs.declared.page.Example.{Example}
use Rattle.pages.specs.declared.page.Example.TheVariants.{Nothing, Program, WithInput, WithTrace, Shape}

-- a page has this word, as its name or as one of the others
abbrev pub answers_to : Page → (word : List ℕ) → Bool
answers_to page word =
    bytes_eq page.name.now word || list_any (λ other. bytes_eq other.now word) page.others.now

-- `NAME: ABOUT`
abbrev pub head_text : Page → List ℕ
head_text page = page.name.now ++ codes ": " ++ page.about.now ++ codes "\n"

-- a name after a space
abbrev pub spaced_name : Page → List ℕ
spaced_name page = codes " " ++ page.name.now

-- a line of a program
abbrev pub indented : Bor (List ℕ) → List ℕ
indented line = codes "    " ++ line.now ++ codes "\n"

-- a program after an empty line
abbrev pub program_text : List (Bor (List ℕ)) → List ℕ
program_text lines = codes "\n" ++ flat_map indented lines

-- a command as it is typed, and its output
abbrev pub told_text : Sample → List ℕ
told_text t = codes "\n  $ afx " ++ t.command.now ++ codes "\n  " ++ t.line.now ++ codes "\n"

-- an input, as the file that the command names
abbrev pub input_text : List ℕ → List ℕ
input_text input = codes "\n  input.json: " ++ input ++ codes "\n"

-- an input, a command, and its output
abbrev pub given_text : SampleWithInput → List ℕ
given_text g = input_text g.input.now ++ told_text g.told

-- a trace, as the file that the command names
abbrev pub trace_text : List (Bor (List ℕ)) → List ℕ
trace_text lines = codes "\n  program.trace:\n" ++ flat_map indented lines

-- a trace, a command, and its output
abbrev pub traced_text : Traced → List ℕ
traced_text t = trace_text t.trace.now ++ told_text t.told

-- the file that has the complete program of a pattern
abbrev pub place_text : (name : List ℕ) → List ℕ
place_text name = codes "\n  Complete program: examples/" ++ name ++ codes ".afx\n"

-- an example: a program, with its input or its trace if there is one, and its output; or a part of
-- a program and the file of the complete one
abbrev pub example_text : Example → List ℕ
example_text Nothing = []
example_text (Program t) = program_text t.lines.now ++ told_text t
example_text (WithInput g) = program_text g.told.lines.now ++ given_text g
example_text (WithTrace t) = program_text t.told.lines.now ++ traced_text t
example_text (Shape s) = program_text s.lines.now ++ place_text s.name.now

-- how to fix the problem, if the page has that
abbrev pub mend_text : Option (Bor (List ℕ)) → List ℕ
mend_text None = []
mend_text (Some mend) = codes "\n" ++ mend.now ++ codes "\n"

-- the text after the rule: the example, and how to fix the problem
abbrev pub end_text : Page → List ℕ
end_text page = example_text page.example ++ mend_text page.mend

-- the text after the heading: the rule between two newlines, and the end
abbrev pub body_text : Page → List ℕ
body_text page = (codes "\n" ++ page.rule.now ++ codes "\n") ++ end_text page

-- the text of a page
abbrev pub page_text : Page → List ℕ
page_text page = head_text page ++ body_text page
