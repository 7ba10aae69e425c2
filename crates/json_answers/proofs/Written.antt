-- From the line of an object to its meaning.
use Rattle.std.proofs.Common.{◌≡◌, ◌≢◌, ℕ, List, Option, Result, Ok, Err, ap, sym, subst, ◌∙◌}
use Rattle.std.proofs.Common.{Global, String, string_bytes}
use Rattle.std.specs.declared.alloc.AllocError.{AllocError}
use Rattle.std.proofs.KnownBytes.{Appends-kept}
use Rattle.std.specs.Io.KnownBytes.{Keeps}
use Rattle.std.specs.Prelude.{IfOk}
use Rattle.syntax.specs.declared.place.TextPlace.{TextPlace}
use Rattle.types.specs.Code.{Program}
use Rattle.types.specs.Typed.{code_of}
use Rattle.parallel_relation.specs.Pairs.{ArePairs, AreListed, HasPair}
use Rattle.parallel_relation.specs.Together.{LabelsMeet}
use Rattle.parallel_relation.specs.declared.pairs.Pairs.{Pairs as KeptPairs}
use Rattle.race_checker.specs.Translation.{race as race_of}
use Rattle.witness.specs.Witness.{IsShortest, IsWitness}
use Rattle.witness.specs.declared.witness.Witness.{Witness}
use Rattle.printing.proofs.Appending.{beginning_written}
use Rattle.printing.specs.Appending.{AppendsBeginning, Writes}
use Rattle.failures.specs.declared.failure.Failure.{Failure}
use Rattle.failures.specs.declared.failure.Failure.TheVariants.{CannotWriteOutput}
use Rattle.failures.specs.declared.least_race.LeastRace.{LeastRace}
use Rattle.commands.specs.Answers.{Answer, IsCodeOf}
use Rattle.json_answers.specs.Pieces.{line}
use Rattle.json_answers.specs.Refusals.{refusal_json}
use Rattle.json_answers.specs.Programs.{pairs_json}
use Rattle.json_answers.specs.Races.{race_json}
use Rattle.commands.proofs.Answering.{listed_as}
use Rattle.json_answers.specs.Objects.{ArePlaces, ObjectOfPairs}
use Rattle.json_answers.specs.declared.object_line.ObjectLine.{ObjectLine}
use Rattle.json_answers.specs.declared.reason.Reason.{Reason}
use Rattle.json_answers.specs.Failing.{FailedAsObject, IsToldAsObject, TellsPlaced, TellsRace, told}

kept_begun : (a b c : Option (List ℕ)) (t : List ℕ) → AppendsBeginning a b t → Keeps b c → AppendsBeginning a c t
kept_begun a b c t p keeps = record {
  begun = p.begun;
  rest = p.rest;
  parts = p.parts;
  appended = Appends-kept a b c p.begun p.appended keeps;
}

-- an object that was written and flushed
pub flushed : {T E : Type 0} (Tells : List ℕ → Type 0) (a b c : Option (List ℕ)) (r : Result T E) (t : List ℕ) → Tells t
    → Writes a b r t → Keeps b c → IsToldAsObject Tells a c
flushed Tells a b c r t tells written keeps = told t tells (kept_begun a b c t (beginning_written a b r t written) keeps)

-- a failure that is reported with the positions of the text's program
pub placed_told : (file text object : List ℕ) (f : Failure) (places shown : List TextPlace) (reason : Reason) → shown ≡ places
    → ArePlaces text places → object ≡ line (refusal_json file shown f reason) → TellsPlaced file text f object
placed_told file text object f places shown reason same begun is = record {
  places = places;
  begun = begun;
  reason = reason;
  told_is = is ∙ ap (λ (ps : List TextPlace). line (refusal_json file ps f reason)) same;
}

-- the race of a failure, with its witness
pub race_told : (file text object : List ℕ) (found : LeastRace) (back : Program) (places shown : List TextPlace) (w : Witness)
    (reason : Reason) → IsWitness (code_of found.typed) (race_of found.race) w
    → IsShortest (code_of found.typed) (race_of found.race) w → back ≡ code_of found.typed → shown ≡ places
    → ArePlaces text places → object ≡ line (race_json file shown back (race_of found.race) w reason)
    → TellsRace file text found object
race_told file text object found back places shown w reason is_witness shortest same_code same begun is = record {
  places = places;
  begun = begun;
  shows = record {
    witness = w;
    is_witness = is_witness;
    shortest = shortest;
    reason = reason;
    told_is = is ∙ ap (λ (p : Program). line (race_json file shown p (race_of found.race) w reason)) same_code
        ∙ ap (λ (ps : List TextPlace). line (race_json file ps (code_of found.typed) (race_of found.race) w reason)) same;
  };
}

-- the line of an object, with its status
pub object_told : (Is : Answer) (r : Result ObjectLine Failure) (l : Result (String Global) AllocError)
    → IfOk r (λ t. l ≡ Ok t.line) → IfOk r (λ t. t.status ≡ 0) → IfOk l (λ x. Is (string_bytes x) 0)
    → IfOk r (λ t. Is (string_bytes t.line) t.status)
object_told Is (Err f) l is status object = tt
object_told Is (Ok t) l is status object =
    subst (Is (string_bytes t.line)) (sym status)
    (subst (λ (m : Result (String Global) AllocError). IfOk m (λ x. Is (string_bytes x) 0)) is object)

-- the pairs of a program
pub told_pairs : (text : List ℕ) (code : Program) (kept : KeptPairs) (list : List (ℕ × ℕ)) (r : Result ObjectLine Failure)
    (l : Result (String Global) AllocError) → IsCodeOf text code → ArePairs code kept → AreListed (HasPair kept) list
    → IfOk r (λ t. l ≡ Ok t.line) → IfOk r (λ t. t.status ≡ 0) → IfOk l (λ x. string_bytes x ≡ line (pairs_json list))
    → IfOk r (λ t. ObjectOfPairs text (string_bytes t.line) t.status)
told_pairs text code kept list (Err f) l is_code are listed is status object = tt
told_pairs text code kept list (Ok t) l is_code are listed is status object =
    record {
      code = code;
      is_code = is_code;
      pairs = list;
      listed = listed_as (HasPair kept) (LabelsMeet code) are list listed;
      told_is = subst (λ (m : Result (String Global) AllocError). IfOk m (λ x. string_bytes x ≡ line (pairs_json list))) is object;
      status_is = status;
    }

module _ (Is : Answer) (Why : Failure → Type 0) (Tells : Failure → (told : List ℕ) → Type 0) where
  -- a failure whose object was written
  pub object_refused : (old new : Option (List ℕ)) (f : Failure) → Why f → f ≢ CannotWriteOutput
      → IsToldAsObject (Tells f) old new → FailedAsObject Is Why Tells old new f
  object_refused old new f why other is_told =
      record { why = why; told = λ _. is_told; begun = λ is. absurd (other is) }
