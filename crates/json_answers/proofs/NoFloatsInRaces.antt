-- None of the values has a float, therefore each has one compact text.
use Rattle.std.proofs.Common.{ℕ, Bool, List, refl}
use Rattle.serde_json.specs.Data.{string}
use Rattle.syntax.specs.declared.place.TextPlace.{TextPlace}
use Rattle.types.specs.Code.{Procedure, Program}
use Rattle.effects.specs.Accesses.{Access}
use Rattle.race_checker.specs.Races.{Race}
use Rattle.witness.specs.declared.step.WayStep.{WayStep}
use Rattle.witness.specs.declared.sharing.Sharing.{Sharing}
use Rattle.witness.specs.declared.witness.Witness.{Witness}
use Rattle.failures.specs.Races.{told_procedure}
use Rattle.json_answers.proofs.NoFloats.{HasNoFloat, list_has_none, natural_has_none, object_has_none}
use Rattle.json_answers.proofs.NoFloats.{helps_have_none, or_null_has_none, reason_has_none, string_has_none}
use Rattle.json_answers.specs.Pieces.{natural}
use Rattle.json_answers.specs.Places.{column_of, line_of, place_at}
use Rattle.json_answers.specs.Races.{access_json, access_members, accesses_json, accesses_members, race_json, race_members}
use Rattle.json_answers.specs.declared.reason.Reason.{Reason}
use Rattle.json_answers.specs.Steps.{StepIn, called_by, step_json, step_members, steps_in, way_json}
use Rattle.json_answers.specs.Witnesses.{common_section, first_way, second_way, sharing_json, sharing_members}
use Rattle.json_answers.specs.Witnesses.{witness_json, witness_members}

access_has_none : (places : List TextPlace) (g : Procedure) (a : Access) → HasNoFloat (access_json places g a)
access_has_none places g a =
    let place = place_at places a.label in
    object_has_none (access_members places g a) (
      or_null_has_none natural (column_of place) natural_has_none,
      (
        refl,
        (
          refl,
          (or_null_has_none natural (line_of place) natural_has_none, (refl, tt)),
        ),
      ),
    )

step_has_none : (places : List TextPlace) (p : Program) (write : Bool) (s : StepIn) → HasNoFloat (step_json places p write s)
step_has_none places p write s =
    let place = place_at places s.step.label in
    object_has_none (step_members places p write s) (
      or_null_has_none string (called_by p s.step.rule) string_has_none,
      (
        or_null_has_none natural (column_of place) natural_has_none,
        (
          refl,
          (
            refl,
            (or_null_has_none natural (line_of place) natural_has_none, (refl, (refl, tt))),
          ),
        ),
      ),
    )

way_has_none : (places : List TextPlace) (p : Program) (write : Bool) (f : ℕ) (way : List WayStep)
    → HasNoFloat (way_json places p write f way)
way_has_none places p write f way =
    list_has_none (step_json places p write) (steps_in f way) (step_has_none places p write)

sharing_has_none : (g : Procedure) (s : Sharing) → HasNoFloat (sharing_json g s)
sharing_has_none g s =
    object_has_none (sharing_members g s) (refl, (or_null_has_none string (common_section g s) string_has_none, tt))

witness_has_none : (places : List TextPlace) (p : Program) (r : Race) (w : Witness) → HasNoFloat (witness_json places p r w)
witness_has_none places p r w =
    object_has_none (witness_members places p r w) (
      way_has_none places p r.first.write r.procedure (first_way w),
      (
        refl,
        (
          refl,
          (
            way_has_none places p r.second.write r.procedure (second_way w),
            (sharing_has_none (told_procedure p r.procedure) w.sharing, tt),
          ),
        ),
      ),
    )

accesses_have_none : (places : List TextPlace) (p : Program) (r : Race) (w : Witness) → HasNoFloat (accesses_json places p r w)
accesses_have_none places p r w =
    let g = told_procedure p r.procedure in
    object_has_none (accesses_members places p r w)
    (access_has_none places g r.first, (refl, (access_has_none places g r.second, (witness_has_none places p r w, tt))))

pub race_has_none : (file : List ℕ) (places : List TextPlace) (p : Program) (r : Race) (w : Witness) (reason : Reason)
    → HasNoFloat (race_json file places p r w reason)
race_has_none file places p r w reason =
    let place = place_at places r.first.label in
    object_has_none (race_members file places p r w reason) (
      refl,
      (
        or_null_has_none natural (column_of place) natural_has_none,
        (
          refl,
          (
            helps_have_none reason,
            (
              refl,
              (
                or_null_has_none natural (line_of place) natural_has_none,
                (refl, (accesses_have_none places p r w, (reason_has_none reason, (refl, tt)))),
              ),
            ),
          ),
        ),
      ),
    )
