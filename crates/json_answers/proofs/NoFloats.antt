-- None of the values has a float, therefore each has one compact text.
use Rattle.std.proofs.Common.{◌≡◌, ℕ, List, [], ◌∷◌, map, Option, None, Some, false, refl}
use Rattle.std.proofs.Common.{Ordering, Less, Equal, Greater, nat_cmp}
use Rattle.std.specs.Prelude.{ℤ, pos, negsuc, ◌||◌, Bool}
use Rattle.std.specs.Cmp.Lexicographic.{slice_cmp}
use Rattle.std.specs.List.{AllByRecursion, zip}
use Rattle.std.specs.Option.{option_map}
use Rattle.std.specs.String.{string_bytes}
use Rattle.std.specs.Ordering.{match_ordering}
use Rattle.std.proofs.lemmas.Bool.{or_from, or_parts}
use Rattle.serde_json.specs.Data.{Data, string, Members, no_members, member, put}
use Rattle.serde_json.specs.View.{items_of}
use Rattle.serde_json.specs.Written.{has_float, items_have_float, members_have_float}
use Rattle.syntax.specs.declared.place.TextPlace.{TextPlace}
use Rattle.types.specs.Code.{Array}
use Rattle.types.specs.Outcome.{Outcome, Ended, Stopped}
use Rattle.types.specs.Run.{Fault}
use Rattle.failures.specs.declared.failure.Failure.{Failure}
use Rattle.step_trees.specs.Standing.{Candidate}
use Rattle.json_answers.specs.AllEnds.{End, end_json, end_members, ends_json, ends_members}
use Rattle.json_answers.specs.Candidates.{candidate_json, candidate_members, open_json, open_members}
use Rattle.json_answers.specs.Faults.{fault_json, fault_members, raised_number}
use Rattle.json_answers.specs.Outcomes.{ended_members, numbers_json, put_arrays, outcome_json}
use Rattle.json_answers.specs.Pieces.{integer, natural, list_by, or_null, members_by, object_of}
use Rattle.json_answers.specs.Places.{column_of, line_of, place_at}
use Rattle.json_answers.specs.Programs.{pair_json, pairs_json, pairs_members}
use Rattle.json_answers.specs.Refusals.{explained_place, failure_array, failure_code, failure_label, helps_json, reason_json}
use Rattle.json_answers.specs.Refusals.{refusal_json, refusal_members}
use Rattle.json_answers.specs.declared.reason.Reason.{Reason}

abbrev pub HasNoFloat : Data → Type 0
HasNoFloat d = has_float d ≡ false

pub integer_has_none : (z : ℤ) → HasNoFloat (integer z)
integer_has_none (pos n) = refl
integer_has_none (negsuc n) = refl

pub natural_has_none : (n : ℕ) → HasNoFloat (natural n)
natural_has_none n = refl

pub string_has_none : (s : List ℕ) → HasNoFloat (string s)
string_has_none s = refl

pub or_null_has_none : {X : Type 0} (f : X → Data) (o : Option X) → ((x : X) → HasNoFloat (f x))
    → HasNoFloat (or_null f o)
or_null_has_none f None none = refl
or_null_has_none f (Some x) none = none x

pub list_has_none : {X : Type 0} (f : X → Data) (xs : List X) → ((x : X) → HasNoFloat (f x))
    → HasNoFloat (list_by f xs)
list_has_none f [] none = refl
list_has_none f (x ∷ xs) none =
    or_from (has_float (f x)) (items_have_float (items_of (map f xs))) (none x) (list_has_none f xs none)

-- an object has no float if no value under a key has one
pub object_has_none : (ms : List (List ℕ × Data)) → AllByRecursion (λ m. HasNoFloat m.1) ms → HasNoFloat (object_of ms)
object_has_none [] all = refl
object_has_none (m ∷ ms) all =
    or_from (has_float m.1) (members_have_float (members_by ms)) all.0 (object_has_none ms all.1)

put_has_none : (k : List ℕ) (d : Data) (ms : Members) → HasNoFloat d → members_have_float ms ≡ false
    → members_have_float (put k d ms) ≡ false
put_has_none k d no_members none others = or_from (has_float d) false none refl
put_has_none k d (member l e ms) none others =
    let parts = or_parts (has_float e) (members_have_float ms) others in
    by_order (slice_cmp nat_cmp k l) parts.0 parts.1 (put_has_none k d ms none parts.1)
  where
    by_order : (o : Ordering) → has_float e ≡ false → members_have_float ms ≡ false
        → members_have_float (put k d ms) ≡ false
        → members_have_float (match_ordering o (member k d (member l e ms)) (member l d ms) (member l e (put k d ms))) ≡ false
    by_order Less p q r = or_from (has_float d) (has_float e || members_have_float ms) none (or_from (has_float e) (members_have_float ms) p q)
    by_order Equal p q r = or_from (has_float d) (members_have_float ms) none q
    by_order Greater p q r = or_from (has_float e) (members_have_float (put k d ms)) p r

numbers_have_none : (numbers : List ℤ) → HasNoFloat (numbers_json numbers)
numbers_have_none numbers = list_has_none integer numbers integer_has_none

arrays_have_none : (xs : List (Array × List ℤ)) (ms : Members) → members_have_float ms ≡ false
    → members_have_float (put_arrays xs ms) ≡ false
arrays_have_none [] ms none = none
arrays_have_none (x ∷ xs) ms none =
    arrays_have_none xs (put x.0.name (numbers_json x.1) ms)
    (put_has_none x.0.name (numbers_json x.1) ms (numbers_have_none x.1) none)

fault_has_none : (places : List TextPlace) (f : Fault) → HasNoFloat (fault_json places f)
fault_has_none places f =
    let place = place_at places f.label in
    object_has_none (fault_members places f) (
      or_null_has_none natural (column_of place) natural_has_none,
      (
        refl,
        (
          refl,
          (
            or_null_has_none natural (line_of place) natural_has_none,
            (or_null_has_none integer (raised_number f.kind) integer_has_none, (refl, tt)),
          ),
        ),
      ),
    )

pub outcome_has_none : (declared : List Array) (places : List TextPlace) (o : Outcome)
    → HasNoFloat (outcome_json declared places o)
outcome_has_none declared places (Ended e) =
    object_has_none (ended_members declared places e) (
      arrays_have_none (zip declared e.arrays) no_members refl,
      (
        list_has_none (fault_json places) e.faults (fault_has_none places),
        (list_has_none numbers_json e.lines numbers_have_none, (refl, (refl, tt))),
      ),
    )
outcome_has_none declared places Stopped = refl

candidate_has_none : (places : List TextPlace) (c : Candidate) → HasNoFloat (candidate_json places c)
candidate_has_none places c =
    let place = place_at places c.label in
    object_has_none (candidate_members places c) (
      or_null_has_none natural (column_of place) natural_has_none,
      (refl, (or_null_has_none natural (line_of place) natural_has_none, (refl, tt))),
    )

pub open_has_none : (places : List TextPlace) (cs : List Candidate) → HasNoFloat (open_json places cs)
open_has_none places cs =
    object_has_none (open_members places cs)
    (list_has_none (candidate_json places) cs (candidate_has_none places), (refl, tt))

end_has_none : (declared : List Array) (places : List TextPlace) (e : End) → HasNoFloat (end_json declared places e)
end_has_none declared places e =
    object_has_none (end_members declared places e)
    (list_has_none natural e.choices natural_has_none, (outcome_has_none declared places e.outcome, tt))

pub ends_have_none : (declared : List Array) (places : List TextPlace) (all : Bool) (es : List End) (tried : ℕ)
    → HasNoFloat (ends_json declared places all es tried)
ends_have_none declared places all es tried =
    object_has_none (ends_members declared places all es tried)
    (refl, (list_has_none (end_json declared places) es (end_has_none declared places), (refl, (refl, tt))))

pub pairs_have_none : (pairs : List (ℕ × ℕ)) → HasNoFloat (pairs_json pairs)
pairs_have_none pairs =
    object_has_none (pairs_members pairs)
    (list_has_none pair_json pairs (λ pair. list_has_none natural (pair.0 ∷ pair.1 ∷ []) natural_has_none), (refl, tt))

-- what an explanation says
pub reason_has_none : (r : Reason) → HasNoFloat (reason_json r)
reason_has_none r = or_null_has_none string (option_map string_bytes r.reason) string_has_none

pub helps_have_none : (r : Reason) → HasNoFloat (helps_json r)
helps_have_none r =
    list_has_none (λ help. string (string_bytes help)) r.helps.items (λ help. string_has_none (string_bytes help))

pub refusal_has_none : (file : List ℕ) (places : List TextPlace) (f : Failure) (r : Reason)
    → HasNoFloat (refusal_json file places f r)
refusal_has_none file places f r =
    let place = explained_place places f r in
    object_has_none (refusal_members file places f r) (
      or_null_has_none string (failure_array f) string_has_none,
      (
        or_null_has_none string (failure_code f) string_has_none,
        (
          or_null_has_none natural (column_of place) natural_has_none,
          (
            refl,
            (
              helps_have_none r,
              (
                or_null_has_none natural (failure_label f) natural_has_none,
                (
                  or_null_has_none natural (line_of place) natural_has_none,
                  (refl, (reason_has_none r, (refl, tt))),
                ),
              ),
            ),
          ),
        ),
      ),
    )
