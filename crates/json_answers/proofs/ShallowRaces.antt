-- The values are nested no deeper than the parser accepts.
use Rattle.std.proofs.Common.{◌≤◌, ℕ, Bool, List, Option, arith}
use Rattle.serde_json.specs.Data.{Data, depth, string}
use Rattle.serde_json.specs.Read.{max_depth}
use Rattle.syntax.specs.declared.place.TextPlace.{TextPlace}
use Rattle.types.specs.Code.{Procedure, Program}
use Rattle.effects.specs.Accesses.{Access}
use Rattle.race_checker.specs.Races.{Race}
use Rattle.witness.specs.declared.step.WayStep.{WayStep}
use Rattle.witness.specs.declared.sharing.Sharing.{Sharing}
use Rattle.witness.specs.declared.witness.Witness.{Witness}
use Rattle.failures.specs.Races.{told_procedure}
use Rattle.json_answers.proofs.Shallow.{Within, list_within, natural_within, object_within, or_null_within}
use Rattle.json_answers.proofs.Shallow.{helps_within, reason_within, string_within}
use Rattle.json_answers.specs.Pieces.{natural, or_null}
use Rattle.json_answers.specs.Places.{column_of, line_of, place_at}
use Rattle.json_answers.specs.Races.{access_json, access_members, accesses_json, accesses_members, race_json, race_members}
use Rattle.json_answers.specs.Refusals.{helps_json, reason_json}
use Rattle.json_answers.specs.declared.reason.Reason.{Reason}
use Rattle.json_answers.specs.Steps.{StepIn, called_by, step_json, step_members, steps_in, way_json}
use Rattle.json_answers.specs.Witnesses.{common_section, first_way, second_way, sharing_json, sharing_members}
use Rattle.json_answers.specs.Witnesses.{witness_json, witness_members}

access_within : (places : List TextPlace) (g : Procedure) (a : Access) → Within 1 (access_json places g a)
access_within places g a =
    let place = place_at places a.label in
    object_within 0 (access_members places g a) (
      or_null_within 0 natural (column_of place) natural_within,
      (
        omega arith,
        (
          omega arith,
          (or_null_within 0 natural (line_of place) natural_within, (omega arith, tt)),
        ),
      ),
    )

step_within : (places : List TextPlace) (p : Program) (write : Bool) (s : StepIn) → Within 1 (step_json places p write s)
step_within places p write s =
    let place = place_at places s.step.label in
    object_within 0 (step_members places p write s) (
      or_null_within 0 string (called_by p s.step.rule) string_within,
      (
        or_null_within 0 natural (column_of place) natural_within,
        (
          omega arith,
          (
            omega arith,
            (or_null_within 0 natural (line_of place) natural_within, (omega arith, (omega arith, tt))),
          ),
        ),
      ),
    )

way_within : (places : List TextPlace) (p : Program) (write : Bool) (f : ℕ) (way : List WayStep)
    → Within 2 (way_json places p write f way)
way_within places p write f way =
    list_within 1 (step_json places p write) (steps_in f way) (step_within places p write)

-- one that is nested less
deeper : (m n : ℕ) (d : Data) → Within m d → m ≤ n → Within n d
deeper m n d within less = omega arith

sharing_within : (g : Procedure) (s : Sharing) → Within 1 (sharing_json g s)
sharing_within g s =
    object_within 0 (sharing_members g s) (omega arith, (or_null_within 0 string (common_section g s) string_within, tt))

witness_within : (places : List TextPlace) (p : Program) (r : Race) (w : Witness) → Within 3 (witness_json places p r w)
witness_within places p r w =
    let g = told_procedure p r.procedure in
    object_within 2 (witness_members places p r w) (
      way_within places p r.first.write r.procedure (first_way w),
      (
        omega arith,
        (
          omega arith,
          (
            way_within places p r.second.write r.procedure (second_way w),
            (deeper 1 2 (sharing_json g w.sharing) (sharing_within g w.sharing) (omega arith), tt),
          ),
        ),
      ),
    )

accesses_within : (places : List TextPlace) (p : Program) (r : Race) (w : Witness) → Within 4 (accesses_json places p r w)
accesses_within places p r w =
    let g = told_procedure p r.procedure in
    object_within 3 (accesses_members places p r w) (
      deeper 1 3 (access_json places g r.first) (access_within places g r.first) (omega arith),
      (
        omega arith,
        (
          deeper 1 3 (access_json places g r.second) (access_within places g r.second) (omega arith),
          (witness_within places p r w, tt),
        ),
      ),
    )

or_null_in_four : (o : Option ℕ) → Within 4 (or_null natural o)
or_null_in_four o = deeper 0 4 (or_null natural o) (or_null_within 0 natural o natural_within) (omega arith)

pub race_within : (file : List ℕ) (places : List TextPlace) (p : Program) (r : Race) (w : Witness) (reason : Reason)
    → depth (race_json file places p r w reason) ≤ max_depth
race_within file places p r w reason =
    let place = place_at places r.first.label in
    let whole = object_within 4 (race_members file places p r w reason) (
      omega arith,
      (
        or_null_in_four (column_of place),
        (
          omega arith,
          (
            deeper 1 4 (helps_json reason) (helps_within reason) (omega arith),
            (
              omega arith,
              (
                or_null_in_four (line_of place),
                (
                  omega arith,
                  (
                    accesses_within places p r w,
                    (deeper 0 4 (reason_json reason) (reason_within reason) (omega arith), (omega arith, tt)),
                  ),
                ),
              ),
            ),
          ),
        ),
      ),
    ) in
    omega arith
