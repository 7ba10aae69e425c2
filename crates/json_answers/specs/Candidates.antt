-- The object of a run that hasn't ended: the tasks that may step.
use Rattle.std.specs.Prelude.{ℕ, List, [], ◌∷◌, codes}
use Rattle.serde_json.specs.Data.{Data, string}
use Rattle.syntax.specs.declared.place.TextPlace.{TextPlace}
use Rattle.types.specs.Names.{path_text}
use Rattle.step_trees.specs.Standing.{Candidate}
use Rattle.json_answers.specs.Pieces.{list_by, natural, object_of, or_null}
use Rattle.json_answers.specs.Places.{column_of, line_of, place_at}

-- the task, its next statement and the position of that
abbrev pub candidate_members : List TextPlace → Candidate → List (List ℕ × Data)
candidate_members places c =
    let place = place_at places c.label in
    (codes "column", or_null natural (column_of place))
    ∷ (codes "label", natural c.label)
    ∷ (codes "line", or_null natural (line_of place))
    ∷ (codes "path", string (path_text c.path)) ∷ []

abbrev pub candidate_json : List TextPlace → Candidate → Data
candidate_json places c = object_of (candidate_members places c)

-- the tasks, in the order of the choices that name them
abbrev pub open_members : List TextPlace → List Candidate → List (List ℕ × Data)
open_members places cs =
    (codes "open", list_by (candidate_json places) cs) ∷ (codes "status", natural 3) ∷ []

abbrev pub open_json : List TextPlace → List Candidate → Data
open_json places cs = object_of (open_members places cs)
