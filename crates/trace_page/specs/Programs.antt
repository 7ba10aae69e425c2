-- The members that describe a program and the settings of its run.
use Rattle.std.specs.Prelude.{ℕ, ℤ, List, [], ◌∷◌, Bool, false, codes, pos, negsuc, nat_eq, if◌then◌else◌}
use Rattle.std.specs.List.{list_all}
use Rattle.std.specs.Str.{chars}
use Rattle.serde_json.specs.Data.{Data, string}
use Rattle.syntax.specs.Lexical.{AreTokensOf}
use Rattle.syntax.specs.Spelling.{spelling}
use Rattle.syntax.specs.declared.place.TextPlace.{TextPlace}
use Rattle.syntax_tree.specs.Tree as tree
use Rattle.syntax_tree.specs.declared.tree.ElementType.{ElementType}
use Rattle.syntax_tree.specs.declared.tree.ElementType.TheVariants.{Byte, Int}
use Rattle.statement_places.specs.Begun.{AreBegun}
use Rattle.statement_places.specs.Starts.{starts}
use Rattle.types.specs.Code.{Array}
use Rattle.trace_numbers.specs.declared.summary.TraceSummary.{TraceSummary}
use Rattle.trace_text.specs.declared.header.Header.{Header}
use Rattle.trace_page.specs.Pieces.{list_by, list_of, natural, object_of, value_json}

abbrev pub header_json : Header → Data
header_json h =
    object_of (
    (codes "nest", natural h.budget.nest)
    ∷ (codes "steps", natural h.budget.steps)
    ∷ (codes "w0", natural h.w0)
    ∷ (codes "workers", natural h.workers) ∷ [])

abbrev pub element_text : ElementType → List ℕ
element_text Int = codes "int"
element_text Byte = codes "byte"

-- a declared array
abbrev pub array_json : Array → Data
array_json a =
    object_of (
    (codes "element", string (element_text a.element))
    ∷ (codes "length", natural a.length)
    ∷ (codes "name", string a.name) ∷ [])

abbrev pub is_zero : ℤ → Bool
is_zero (pos n) = nat_eq n 0
is_zero (negsuc n) = false

-- whether all numbers of an array are 0
abbrev pub is_blank : List ℤ → Bool
is_blank = list_all is_zero

-- the numbers of an array at the start; none if all are 0
abbrev pub initial_json : List ℤ → Data
initial_json numbers = if is_blank numbers then list_of [] else list_by value_json numbers

-- the line and the column of a statement
abbrev pub place_json : TextPlace → Data
place_json place = list_of (natural place.line ∷ natural place.column ∷ [])

-- the positions at which the statements of the text's program start
abbrev pub ArePlaces : (text : List ℕ) → List TextPlace → Type 0
ArePlaces text places =
    (p : tree.Program) → AreTokensOf (chars text) (spelling p) → AreBegun (chars text) (starts p) places

-- the numbers of `view --summary`
abbrev pub summary_members : TraceSummary → List (List ℕ × Data)
summary_members s =
    (codes "deepest_nest", natural s.deepest_nest)
    ∷ (codes "most_live_tasks", natural s.most_tasks)
    ∷ (codes "replenishments", natural s.replenishings)
    ∷ (codes "span", natural s.span)
    ∷ (codes "steals", natural s.steals)
    ∷ (codes "steps", natural s.steps)
    ∷ (codes "steps_by_worker", list_by natural s.by_worker.items)
    ∷ (codes "tasks", natural s.tasks) ∷ []

abbrev pub summary_json : TraceSummary → Data
summary_json s = object_of (summary_members s)
