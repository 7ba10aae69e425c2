-- The object of a witness.
use Rattle.std.specs.Prelude.{ℕ, Bool, List, [], ◌∷◌, codes, Option, None, Some, if◌then◌else◌}
use Rattle.serde_json.specs.Data.{Data, string}
use Rattle.syntax.specs.declared.place.TextPlace.{TextPlace}
use Rattle.types.specs.Code.{Procedure, Program}
use Rattle.race_checker.specs.Races.{Race}
use Rattle.witness.specs.declared.step.WayStep.{WayStep}
use Rattle.witness.specs.declared.crossing.RunsTogether.{RunsTogether}
use Rattle.witness.specs.declared.crossing.RunsTogether.TheVariants.{Follows, Turns}
use Rattle.witness.specs.declared.sharing.Sharing.{Sharing}
use Rattle.witness.specs.declared.sharing.Sharing.TheVariants.{Same, FirstIsPart, SecondIsPart, OfSplits}
use Rattle.witness.specs.declared.witness.Witness.{Witness}
use Rattle.failures.specs.Races.{section_name, told_procedure}
use Rattle.json_answers.specs.Pieces.{object_of, or_null}
use Rattle.json_answers.specs.Steps.{way_json}

-- the paths to the first and to the second access of the race
abbrev pub first_way : Witness → List WayStep
first_way w = if w.first_pends then w.pending.items else w.later.items

abbrev pub second_way : Witness → List WayStep
second_way w = if w.first_pends then w.later.items else w.pending.items

-- how they can run together
abbrev pub meeting_word : RunsTogether → List ℕ
meeting_word Follows = codes "follows"
meeting_word Turns = codes "turns"

-- which of them is left pending
abbrev pub pending_word : (first_pends : Bool) → List ℕ
pending_word first_pends = if first_pends then codes "first" else codes "second"

-- why their sections share places
abbrev pub sharing_word : Sharing → List ℕ
sharing_word Same = codes "same"
sharing_word FirstIsPart = codes "first_is_part"
sharing_word SecondIsPart = codes "second_is_part"
sharing_word (OfSplits s) = codes "of_splits"

-- the section that both are sides of splits of
abbrev pub common_section : Procedure → Sharing → Option (List ℕ)
common_section g (OfSplits s) = Some (section_name g s.number)
common_section g _ = None

abbrev pub sharing_members : Procedure → Sharing → List (List ℕ × Data)
sharing_members g s =
    (codes "kind", string (sharing_word s)) ∷ (codes "section", or_null string (common_section g s)) ∷ []

abbrev pub sharing_json : Procedure → Sharing → Data
sharing_json g s = object_of (sharing_members g s)

-- both paths, from where they separate down to the accesses
abbrev pub witness_members : List TextPlace → Program → Race → Witness → List (List ℕ × Data)
witness_members places p r w =
    (codes "first", way_json places p r.first.write r.procedure (first_way w))
    ∷ (codes "meeting", string (meeting_word w.meeting))
    ∷ (codes "pending", string (pending_word w.first_pends))
    ∷ (codes "second", way_json places p r.second.write r.procedure (second_way w))
    ∷ (codes "sharing", sharing_json (told_procedure p r.procedure) w.sharing) ∷ []

abbrev pub witness_json : List TextPlace → Program → Race → Witness → Data
witness_json places p r w = object_of (witness_members places p r w)
