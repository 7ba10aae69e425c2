-- The objects of durations and of the results of tests, and objects that were written.
use Rattle.std.proofs.Common.{◌≡◌, ◌≤◌, ℕ, List, Option, Result, Ok, Err, IfOk, IfErr, map, arith, ap, ◌∙◌, refl, subst, sym}
use Rattle.std.specs.Prelude.{MatchResult}
use Rattle.serde_json.specs.Data.{Data, depth}
use Rattle.serde_json.specs.Read.{max_depth}
use Rattle.types.specs.Code.{Array}
use Rattle.types.specs.Outcome.{Outcome}
use Rattle.cost.specs.declared.cost.Cost.{Cost as Numbers}
use Rattle.printing.specs.Appending.{Writes}
use Rattle.failures.specs.declared.failure.Failure.{Failure}
use Rattle.failures.specs.declared.failure.Failure.TheVariants.{CannotWriteOutput}
use Rattle.commands.specs.Answers.{Answer, Wrote}
use Rattle.json_answers.specs.Failing.{FailedAsObject}
use Rattle.json_answers.specs.Objects.{TellsOutcome}
use Rattle.json_answers.specs.Pieces.{list_by, object_of}
use Rattle.json_answers.proofs.NoFloats.{HasNoFloat, list_has_none, object_has_none, or_null_has_none}
use Rattle.json_answers.proofs.Seen.{list_by-map}
use Rattle.json_answers.proofs.Shallow.{Within, list_within, object_within, or_null_within}
use Rattle.test_and_bench.specs.TestsObject.{judged_json, tests_json, tests_members}
use Rattle.test_and_bench.specs.TimesObject.{five_json, times_json, times_members}
use Rattle.test_and_bench.specs.Trials.{Judged, failed_of, judged, passed_of}
use Rattle.test_and_bench.specs.declared.times.Times.{Times}
use Rattle.test_and_bench.specs.declared.times.Timed.{Timed}
use Rattle.test_and_bench.specs.declared.trial.Tested.{Tested as rTested}

-- ---- durations

five_has_none : (t : Times) → HasNoFloat (five_json t)
five_has_none t = refl

-- no duration is a float
pub times_have_none : (t : Timed) (c : Numbers) → HasNoFloat (times_json t c)
times_have_none t c =
    object_has_none (times_members t c) (
      refl,
      (
        or_null_has_none five_json t.on_all five_has_none,
        (
          refl,
          (
            or_null_has_none five_json t.on_two five_has_none,
            (refl, (refl, (refl, (refl, (refl, (refl, (refl, tt))))))),
          ),
        ),
      ),
    )

five_within : (t : Times) → Within 1 (five_json t)
five_within t = omega arith

-- the object is nested no deeper than the parser accepts
pub times_within : (t : Timed) (c : Numbers) → depth (times_json t c) ≤ max_depth
times_within t c =
    let whole = object_within 1 (times_members t c) (
      omega arith,
      (
        or_null_within 1 five_json t.on_all five_within,
        (
          five_within t.on_one,
          (
            or_null_within 1 five_json t.on_two five_within,
            (
              five_within t.serial,
              (omega arith, (omega arith, (omega arith, (omega arith, (omega arith, (omega arith, tt)))))),
            ),
          ),
        ),
      ),
    ) in
    omega arith

-- ---- results of tests

judged_has_none : (j : Judged) → HasNoFloat (judged_json j)
judged_has_none j = refl

pub tests_have_none : (js : List Judged) → HasNoFloat (tests_json js)
tests_have_none js =
    object_has_none (tests_members (list_by judged_json js) (passed_of js) (failed_of js))
    (refl, (refl, (list_has_none judged_json js judged_has_none, (refl, tt))))

judged_within : (j : Judged) → Within 1 (judged_json j)
judged_within j = omega arith

pub tests_within : (js : List Judged) → depth (tests_json js) ≤ max_depth
tests_within js =
    let whole = object_within 2 (tests_members (list_by judged_json js) (passed_of js) (failed_of js))
    (omega arith, (omega arith, (list_within 1 judged_json js judged_within, (omega arith, tt)))) in
    omega arith

-- with the list of the results
pub tests_with : (ts : List rTested) (programs : Data) → programs ≡ list_by (λ t. judged_json (judged t)) ts
    → (let js = map judged ts in object_of (tests_members programs (passed_of js) (failed_of js)) ≡ tests_json js)
tests_with ts programs is =
    let js = map judged ts in
    ap (λ (d : Data). object_of (tests_members d (passed_of js) (failed_of js))) (is ∙ sym (list_by-map judged_json judged ts))

-- ---- outcomes

-- the object of the same outcome
pub same_outcome : (declared known : List Array) (o p : Outcome) (text object : List ℕ) (status : ℕ) → declared ≡ known → o ≡ p
    → TellsOutcome declared o text object status → TellsOutcome known p text object status
same_outcome declared known o p text object status are same tells =
    subst (λ (d : List Array). TellsOutcome d p text object status) are
    (subst (λ (q : Outcome). TellsOutcome declared q text object status) same tells)

-- ---- objects that were written

module _ (Is : Answer) (Why : Failure → Type 0) (Tells : Failure → (told : List ℕ) → Type 0) where
  -- an object is the answer, or a prefix of it
  pub object_answered : (old new : Option (List ℕ)) (r : Result ℕ Failure) (told : List ℕ) (status : ℕ) → Why CannotWriteOutput
      → Is told status → Writes old new r told → IfOk r (λ x. x ≡ status) → IfErr r (λ f. f ≡ CannotWriteOutput)
      → MatchResult r (Wrote Is old new) (FailedAsObject Is Why Tells old new)
  object_answered old new (Ok x) told status why answers written is only = record {
    told = told;
    answers = subst (Is told) (sym is) answers;
    written = written;
  }
  object_answered old new (Err f) told status why answers written is only = record {
    why = subst Why (sym only) why;
    told = λ other. absurd (other only);
    begun = λ _. record { told = told; status = status; answers = answers; begun = written };
  }
