-- The object of a race.
use Rattle.std.specs.Prelude.{ℕ, List, [], ◌∷◌, codes, Option}
use Rattle.serde_json.specs.Data.{Data, string}
use Rattle.syntax.specs.declared.place.TextPlace.{TextPlace}
use Rattle.types.specs.Code.{Procedure, Program}
use Rattle.effects.specs.Accesses.{Access}
use Rattle.race_checker.specs.Races.{Race}
use Rattle.witness.specs.declared.witness.Witness.{Witness}
use Rattle.failures.specs.Races.{kind_of, race_text, section_name, told_procedure}
use Rattle.json_answers.specs.Pieces.{natural, object_of, or_null}
use Rattle.json_answers.specs.Places.{column_of, line_of, place_at}
use Rattle.json_answers.specs.Refusals.{helps_json, reason_json}
use Rattle.json_answers.specs.Witnesses.{witness_json}
use Rattle.json_answers.specs.declared.reason.Reason.{Reason}

-- the statement and its position, what it does, and the section, by its name in the procedure
abbrev pub access_members : List TextPlace → Procedure → Access → List (List ℕ × Data)
access_members places g a =
    let place = place_at places a.label in
    (codes "column", or_null natural (column_of place))
    ∷ (codes "kind", string (kind_of a.write))
    ∷ (codes "label", natural a.label)
    ∷ (codes "line", or_null natural (line_of place))
    ∷ (codes "section", string (section_name g a.section)) ∷ []

abbrev pub access_json : List TextPlace → Procedure → Access → Data
access_json places g a = object_of (access_members places g a)

-- the procedure that has it, both accesses, and why it is a race
abbrev pub accesses_members : List TextPlace → Program → Race → Witness → List (List ℕ × Data)
accesses_members places p r w =
    let g = told_procedure p r.procedure in
    (codes "first", access_json places g r.first)
    ∷ (codes "procedure", string g.name)
    ∷ (codes "second", access_json places g r.second)
    ∷ (codes "witness", witness_json places p r w) ∷ []

abbrev pub accesses_json : List TextPlace → Program → Race → Witness → Data
accesses_json places p r w = object_of (accesses_members places p r w)

-- the members of a failure by a race: instead of an array the accesses, with the label and the position of
-- the first
abbrev pub members_at : (file : List ℕ) → Option TextPlace → (label : ℕ) → (message : List ℕ)
    → (accesses help reason : Data) → List (List ℕ × Data)
members_at file place label message accesses help reason =
    (codes "code", string (codes "C1"))
    ∷ (codes "column", or_null natural (column_of place))
    ∷ (codes "file", string file)
    ∷ (codes "help", help)
    ∷ (codes "label", natural label)
    ∷ (codes "line", or_null natural (line_of place))
    ∷ (codes "message", string message)
    ∷ (codes "race", accesses)
    ∷ (codes "reason", reason)
    ∷ (codes "status", natural 1) ∷ []

abbrev pub told_members : (file : List ℕ) → Option TextPlace → (label : ℕ) → (message : List ℕ)
    → (accesses : Data) → Reason
    → List (List ℕ × Data)
told_members file place label message accesses reason =
    members_at file place label message accesses (helps_json reason) (reason_json reason)

abbrev pub race_members : (file : List ℕ) → List TextPlace → Program → Race → Witness → Reason
    → List (List ℕ × Data)
race_members file places p r w reason =
    told_members file (place_at places r.first.label) r.first.label (race_text p r)
    (accesses_json places p r w) reason

abbrev pub race_json : (file : List ℕ) → List TextPlace → Program → Race → Witness → Reason → Data
race_json file places p r w reason = object_of (race_members file places p r w reason)
