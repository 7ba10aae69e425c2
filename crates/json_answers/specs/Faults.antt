-- The members of a fault.
use Rattle.std.specs.Prelude.{ℕ, ℤ, List, [], ◌∷◌, codes, take, Option, None, Some}
use Rattle.serde_json.specs.Data.{Data, string}
use Rattle.syntax.specs.declared.place.TextPlace.{TextPlace}
use Rattle.types.specs.Names.{kind_text, path_text}
use Rattle.types.specs.Run.{Fault}
use Rattle.types.specs.declared.fault.FaultKind.{FaultKind}
use Rattle.types.specs.declared.fault.FaultKind.TheVariants.{Raised}
use Rattle.json_answers.specs.Pieces.{integer, natural, object_of, or_null}
use Rattle.json_answers.specs.Places.{column_of, line_of, place_at}

-- `F6` of `F6 -3`: the code, without the number of a `fault` statement
abbrev pub fault_code : FaultKind → List ℕ
fault_code kind = take 2 (kind_text kind)

-- the number of a `fault` statement
abbrev pub raised_number : FaultKind → Option ℤ
raised_number (Raised n) = Some n
raised_number _ = None

-- the task, the statement and its position, the kind, and the number of a `fault` statement
abbrev pub fault_members : List TextPlace → Fault → List (List ℕ × Data)
fault_members places f =
    let place = place_at places f.label in
    (codes "column", or_null natural (column_of place))
    ∷ (codes "kind", string (fault_code f.kind))
    ∷ (codes "label", natural f.label)
    ∷ (codes "line", or_null natural (line_of place))
    ∷ (codes "number", or_null integer (raised_number f.kind))
    ∷ (codes "path", string (path_text f.path)) ∷ []

abbrev pub fault_json : List TextPlace → Fault → Data
fault_json places f = object_of (fault_members places f)
