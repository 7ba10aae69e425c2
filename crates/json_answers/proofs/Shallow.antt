-- The values are nested no deeper than the parser accepts.
use Rattle.std.proofs.Common.{◌≤◌, ℕ, suc, List, [], ◌∷◌, map, Option, None, Some, arith}
use Rattle.std.proofs.Common.{Less, Equal, Greater, nat_cmp}
use Rattle.std.specs.Prelude.{ℤ, Bool}
use Rattle.std.specs.Cmp.Lexicographic.{slice_cmp}
use Rattle.std.specs.List.{AllByRecursion, zip}
use Rattle.std.specs.Option.{option_map}
use Rattle.std.specs.String.{string_bytes}
use Rattle.std.specs.Ordering.{match_ordering}
use Rattle.serde_json.specs.Data.{Data, string, Members, no_members, member, put, depth, items_depth, members_depth}
use Rattle.serde_json.specs.Read.{max_depth}
use Rattle.serde_json.specs.View.{items_of}
use Rattle.syntax.specs.declared.place.TextPlace.{TextPlace}
use Rattle.types.specs.Code.{Array, Program}
use Rattle.types.specs.Outcome.{Outcome, Ended, Stopped}
use Rattle.types.specs.Run.{Fault}
use Rattle.failures.specs.declared.failure.Failure.{Failure}
use Rattle.cost.specs.declared.cost.Cost.{Cost}
use Rattle.step_trees.specs.Standing.{Candidate}
use Rattle.json_answers.specs.AllEnds.{End, end_json, end_members, ends_json, ends_members}
use Rattle.json_answers.specs.Candidates.{candidate_json, candidate_members, open_json, open_members}
use Rattle.json_answers.specs.Costs.{cost_json}
use Rattle.json_answers.specs.Faults.{fault_json, fault_members, raised_number}
use Rattle.json_answers.specs.Outcomes.{ended_members, numbers_json, put_arrays, outcome_json}
use Rattle.json_answers.specs.Pieces.{integer, natural, list_by, or_null, members_by, object_of}
use Rattle.json_answers.specs.Places.{column_of, line_of, place_at}
use Rattle.json_answers.specs.Programs.{accepted_json, formatted_json, pair_json, pairs_json, pairs_members}
use Rattle.json_answers.specs.Refusals.{explained_place, failure_array, failure_code, failure_label, helps_json, reason_json}
use Rattle.json_answers.specs.Refusals.{refusal_json, refusal_members}
use Rattle.json_answers.specs.declared.reason.Reason.{Reason}

-- it is nested no deeper
abbrev pub Within : ℕ → Data → Type 0
Within n d = depth d ≤ n

pub or_null_within : {X : Type 0} (n : ℕ) (f : X → Data) (o : Option X) → ((x : X) → Within n (f x))
    → Within n (or_null f o)
or_null_within n f None within = omega arith
or_null_within n f (Some x) within = within x

items_within : {X : Type 0} (n : ℕ) (f : X → Data) (xs : List X) → ((x : X) → Within n (f x))
    → items_depth (items_of (map f xs)) ≤ n
items_within n f [] within = omega arith
items_within n f (x ∷ xs) within =
    let here = within x in
    let rest = items_within n f xs within in
    omega arith

pub list_within : {X : Type 0} (n : ℕ) (f : X → Data) (xs : List X) → ((x : X) → Within n (f x))
    → Within (suc n) (list_by f xs)
list_within n f xs within = let all = items_within n f xs within in omega arith

members_within : (n : ℕ) (ms : List (List ℕ × Data)) → AllByRecursion (λ m. Within n m.1) ms
    → members_depth (members_by ms) ≤ n
members_within n [] all = omega arith
members_within n (m ∷ ms) all =
    let here = all.0 in
    let rest = members_within n ms all.1 in
    omega arith

pub object_within : (n : ℕ) (ms : List (List ℕ × Data)) → AllByRecursion (λ m. Within n m.1) ms
    → Within (suc n) (object_of ms)
object_within n ms all = let within = members_within n ms all in omega arith

put_within : (n : ℕ) (k : List ℕ) (d : Data) (ms : Members) → Within n d → members_depth ms ≤ n
    → members_depth (put k d ms) ≤ n
put_within n k d no_members within others = omega arith
put_within n k d (member l e ms) within others =
    let rest : members_depth ms ≤ n = omega arith in
    let later = put_within n k d ms within rest in
    elim (slice_cmp nat_cmp k l) as (λ o. members_depth
    (match_ordering o (member k d (member l e ms)) (member l d ms) (member l e (put k d ms))) ≤ n)
    [ Less ↦ omega arith | Equal ↦ omega arith | Greater ↦ omega arith ]

pub natural_within : (n : ℕ) → Within 0 (natural n)
natural_within n = omega arith

integer_within : (z : ℤ) → Within 0 (integer z)
integer_within z = omega arith

numbers_within : (numbers : List ℤ) → Within 1 (numbers_json numbers)
numbers_within numbers = list_within 0 integer numbers integer_within

arrays_within : (xs : List (Array × List ℤ)) (ms : Members) → members_depth ms ≤ 1
    → members_depth (put_arrays xs ms) ≤ 1
arrays_within [] ms within = within
arrays_within (x ∷ xs) ms within =
    arrays_within xs (put x.0.name (numbers_json x.1) ms)
    (put_within 1 x.0.name (numbers_json x.1) ms (numbers_within x.1) within)

pub fault_within : (places : List TextPlace) (f : Fault) → Within 1 (fault_json places f)
fault_within places f =
    let place = place_at places f.label in
    object_within 0 (fault_members places f) (
      or_null_within 0 natural (column_of place) natural_within,
      (
        omega arith,
        (
          omega arith,
          (
            or_null_within 0 natural (line_of place) natural_within,
            (or_null_within 0 integer (raised_number f.kind) integer_within, (omega arith, tt)),
          ),
        ),
      ),
    )

outcome_small : (declared : List Array) (places : List TextPlace) (o : Outcome) → Within 3 (outcome_json declared places o)
outcome_small declared places (Ended e) =
    let arrays = arrays_within (zip declared e.arrays) no_members (omega arith) in
    object_within 2 (ended_members declared places e) (
      omega arith,
      (
        list_within 1 (fault_json places) e.faults (fault_within places),
        (list_within 1 numbers_json e.lines numbers_within, (omega arith, (omega arith, tt))),
      ),
    )
outcome_small declared places Stopped = omega arith

pub outcome_within : (declared : List Array) (places : List TextPlace) (o : Outcome)
    → depth (outcome_json declared places o) ≤ max_depth
outcome_within declared places o = let whole = outcome_small declared places o in omega (arith, whole)

end_within : (declared : List Array) (places : List TextPlace) (e : End) → Within 4 (end_json declared places e)
end_within declared places e =
    let choices = list_within 0 natural e.choices natural_within in
    object_within 3 (end_members declared places e) (omega (arith, choices), (outcome_small declared places e.outcome, tt))

pub ends_within : (declared : List Array) (places : List TextPlace) (all : Bool) (es : List End) (tried : ℕ)
    → depth (ends_json declared places all es tried) ≤ max_depth
ends_within declared places all es tried =
    let whole = object_within 5 (ends_members declared places all es tried) (
      omega arith,
      (list_within 4 (end_json declared places) es (end_within declared places), (omega arith, (omega arith, tt))),
    ) in
    omega (arith, whole)

pub accepted_within : (p : Program) → depth (accepted_json p) ≤ max_depth
accepted_within p = omega arith

pub formatted_within : depth formatted_json ≤ max_depth
formatted_within = omega arith

pub cost_within : (c : Cost) → depth (cost_json c) ≤ max_depth
cost_within c = omega arith

pub pairs_within : (pairs : List (ℕ × ℕ)) → depth (pairs_json pairs) ≤ max_depth
pairs_within pairs =
    let whole = object_within 2 (pairs_members pairs)
    (list_within 1 pair_json pairs (λ pair. list_within 0 natural (pair.0 ∷ pair.1 ∷ []) natural_within), (omega arith, tt)) in
    omega arith

candidate_within : (places : List TextPlace) (c : Candidate) → Within 1 (candidate_json places c)
candidate_within places c =
    let place = place_at places c.label in
    object_within 0 (candidate_members places c) (
      or_null_within 0 natural (column_of place) natural_within,
      (omega arith, (or_null_within 0 natural (line_of place) natural_within, (omega arith, tt))),
    )

pub open_within : (places : List TextPlace) (cs : List Candidate) → depth (open_json places cs) ≤ max_depth
open_within places cs =
    let whole = object_within 2 (open_members places cs)
    (list_within 1 (candidate_json places) cs (candidate_within places), (omega arith, tt)) in
    omega arith

pub string_within : (s : List ℕ) → Within 0 (string s)
string_within s = omega arith

-- what is nested less deeply is within more, too
in_one : (d : Data) → Within 0 d → Within 1 d
in_one d within = omega arith

-- what an explanation says
pub reason_within : (r : Reason) → Within 0 (reason_json r)
reason_within r = or_null_within 0 string (option_map string_bytes r.reason) string_within

pub helps_within : (r : Reason) → Within 1 (helps_json r)
helps_within r =
    list_within 0 (λ help. string (string_bytes help)) r.helps.items (λ help. string_within (string_bytes help))

pub refusal_within : (file : List ℕ) (places : List TextPlace) (f : Failure) (r : Reason)
    → depth (refusal_json file places f r) ≤ max_depth
refusal_within file places f r =
    let place = explained_place places f r in
    let array = or_null string (failure_array f) in
    let code = or_null string (failure_code f) in
    let column = or_null natural (column_of place) in
    let label = or_null natural (failure_label f) in
    let line = or_null natural (line_of place) in
    let whole = object_within 1 (refusal_members file places f r) (
      in_one array (or_null_within 0 string (failure_array f) string_within),
      (
        in_one code (or_null_within 0 string (failure_code f) string_within),
        (
          in_one column (or_null_within 0 natural (column_of place) natural_within),
          (
            omega arith,
            (
              helps_within r,
              (
                in_one label (or_null_within 0 natural (failure_label f) natural_within),
                (
                  in_one line (or_null_within 0 natural (line_of place) natural_within),
                  (omega arith, (in_one (reason_json r) (reason_within r), (omega arith, tt))),
                ),
              ),
            ),
          ),
        ),
      ),
    ) in
    omega arith
