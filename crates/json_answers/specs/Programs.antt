-- The objects of an accepted program, and of pairs of labels.
use Rattle.std.specs.Prelude.{ℕ, List, [], ◌∷◌, codes, length, true}
use Rattle.serde_json.specs.Data.{Data, boolean}
use Rattle.types.specs.Code.{Program}
use Rattle.printing.specs.Labels.{labels_in}
use Rattle.json_answers.specs.Pieces.{list_by, natural, object_of}

-- the numbers of its labels and procedures, without `main`
abbrev pub accepted_json : Program → Data
accepted_json p =
    object_of (
    (codes "accepted", boolean true)
    ∷ (codes "labels", natural (labels_in p))
    ∷ (codes "procedures", natural (length p.procedures))
    ∷ (codes "status", natural 0) ∷ [])

-- a text that is formatted
abbrev pub formatted_json : Data
formatted_json = object_of ((codes "formatted", boolean true) ∷ (codes "status", natural 0) ∷ [])

abbrev pub pair_json : ℕ × ℕ → Data
pair_json pair = list_by natural (pair.0 ∷ pair.1 ∷ [])

-- pairs of labels that may run together
abbrev pub pairs_members : List (ℕ × ℕ) → List (List ℕ × Data)
pairs_members pairs = (codes "pairs", list_by pair_json pairs) ∷ (codes "status", natural 0) ∷ []

abbrev pub pairs_json : List (ℕ × ℕ) → Data
pairs_json pairs = object_of (pairs_members pairs)
