-- The object of an outcome.
use Rattle.std.specs.Prelude.{ℕ, ℤ, List, [], ◌∷◌, codes, true, false}
use Rattle.std.specs.List.{zip}
use Rattle.serde_json.specs.Data.{Data, Members, boolean, no_members, object, put}
use Rattle.syntax.specs.declared.place.TextPlace.{TextPlace}
use Rattle.types.specs.Code.{Array}
use Rattle.types.specs.Outcome.{Ended, Ending, Outcome, Stopped}
use Rattle.printing.specs.OutcomeText.{status_by}
use Rattle.json_answers.specs.Faults.{fault_json}
use Rattle.json_answers.specs.Pieces.{integer, list_by, natural, object_of}

abbrev pub numbers_json : List ℤ → Data
numbers_json numbers = list_by integer numbers

-- each array under its name, in addition to the given members
abbrev pub put_arrays : List (Array × List ℤ) → Members → Members
put_arrays [] ms = ms
put_arrays (x ∷ xs) ms = put_arrays xs (put x.0.name (numbers_json x.1) ms)

-- the declared arrays, in the form of an input
abbrev pub arrays_json : (declared : List Array) → List (List ℤ) → Data
arrays_json declared contents = object (put_arrays (zip declared contents) no_members)

-- the arrays, the faults, the printed lines, and the exit status
abbrev pub ended_members : (declared : List Array) → List TextPlace → Ending → List (List ℕ × Data)
ended_members declared places e =
    (codes "arrays", arrays_json declared e.arrays)
    ∷ (codes "faults", list_by (fault_json places) e.faults)
    ∷ (codes "lines", list_by numbers_json e.lines)
    ∷ (codes "status", natural (status_by e.faults))
    ∷ (codes "stopped", boolean false) ∷ []

abbrev pub ended_json : (declared : List Array) → List TextPlace → Ending → Data
ended_json declared places e = object_of (ended_members declared places e)

-- only that the run was stopped
abbrev pub stopped_json : Data
stopped_json = object_of ((codes "status", natural 3) ∷ (codes "stopped", boolean true) ∷ [])

abbrev pub outcome_json : (declared : List Array) → List TextPlace → Outcome → Data
outcome_json declared places (Ended e) = ended_json declared places e
outcome_json declared places Stopped = stopped_json
