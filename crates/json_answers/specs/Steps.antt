-- The steps of a path.
use Rattle.std.specs.Prelude.{ℕ, Bool, List, [], ◌∷◌, codes, Option, None, Some}
use Rattle.serde_json.specs.Data.{Data, string}
use Rattle.syntax.specs.declared.place.TextPlace.{TextPlace}
use Rattle.types.specs.Code.{Program}
use Rattle.witness.specs.declared.step.Rule.{Rule}
use Rattle.witness.specs.declared.step.Rule.TheVariants.{Own, Body, Other, Turn, Side, Piece, Enter, Begin}
use Rattle.witness.specs.declared.step.Rule.TheVariants.{Await, Handler}
use Rattle.witness.specs.declared.step.WayStep.{WayStep}
use Rattle.failures.specs.Races.{kind_of, section_name, told_procedure}
use Rattle.json_answers.specs.Pieces.{list_by, natural, object_of, or_null}
use Rattle.json_answers.specs.Places.{column_of, line_of, place_at}

-- what a step enters; the last one is the access
abbrev pub step_word : (write : Bool) → Rule → List ℕ
step_word write Own = kind_of write
step_word write Body = codes "if"
step_word write Other = codes "else"
step_word write Turn = codes "while"
step_word write Side = codes "split"
step_word write Piece = codes "parts"
step_word write (Enter f) = codes "call"
step_word write Begin = codes "async"
step_word write Await = codes "finish"
step_word write Handler = codes "rescue"

-- the procedure that a step calls
abbrev pub called_by : Program → Rule → Option (List ℕ)
called_by p (Enter f) = Some (told_procedure p f.number).name
called_by p _ = None

-- the procedure in which a path continues after a step
abbrev pub procedure_behind : (procedure : ℕ) → Rule → ℕ
procedure_behind f (Enter g) = g.number
procedure_behind f _ = f

-- a step, and the procedure in which it is taken
pub record StepIn : Type 0 where
  pub procedure : ℕ
  pub step : WayStep

abbrev pub step_in : (procedure : ℕ) → WayStep → StepIn
step_in f s = record { procedure = f; step = s }

-- the steps of a path that starts in a procedure
abbrev pub steps_in : (procedure : ℕ) → List WayStep → List StepIn
steps_in f [] = []
steps_in f (s ∷ ss) = step_in f s ∷ steps_in (procedure_behind f s.rule) ss

-- the statement, its position and what it does, and the accessed section, by its name around the step
abbrev pub step_members : List TextPlace → Program → (write : Bool) → StepIn → List (List ℕ × Data)
step_members places p write s =
    let place = place_at places s.step.label in
    let g = told_procedure p s.procedure in
    (codes "calls", or_null string (called_by p s.step.rule))
    ∷ (codes "column", or_null natural (column_of place))
    ∷ (codes "kind", string (step_word write s.step.rule))
    ∷ (codes "label", natural s.step.label)
    ∷ (codes "line", or_null natural (line_of place))
    ∷ (codes "procedure", string g.name)
    ∷ (codes "section", string (section_name g s.step.section.number)) ∷ []

abbrev pub step_json : List TextPlace → Program → (write : Bool) → StepIn → Data
step_json places p write s = object_of (step_members places p write s)

-- the steps of a path to an access
abbrev pub way_json : List TextPlace → Program → (write : Bool) → (procedure : ℕ) → List WayStep → Data
way_json places p write f way = list_by (step_json places p write) (steps_in f way)
