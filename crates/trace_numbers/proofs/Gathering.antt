-- The finishes with faults, one event after another.
use Rattle.std.proofs.Common.{◌≡◌, ℕ, ◌+◌, ◌<◌, ◌≤◌, List, [], ◌∷◌, ◌++◌, length, drop, get_or, map, ap, ap₂, sym, ◌∙◌, refl}
use Rattle.std.specs.Prelude.{Option, Some, Bool, true, false, cond, nat_eq, if◌then◌else◌}
use Rattle.std.specs.Cmp.Lexicographic.{pointwise}
use Rattle.std.specs.List.{AllZip}
use Rattle.std.proofs.lemmas.Bool.{lt-ltb}
use Rattle.std.proofs.lemmas.List.{drop_all, drop_more, map-append}
use Rattle.shared_lemmas.proofs.Lists.{same_elements}
use Rattle.events.specs.declared.event.Event.{Event}
use Rattle.trace_numbers.specs.Faults.{Finishes, Gathered, faults_of, finishes_after, no_finishes, told, with_faults}
use Rattle.trace_numbers.specs.Tables.{ShowsFinishes, gathered, known_last}
use Rattle.trace_numbers.specs.declared.faults.FinishFaults.{FinishFaults}
use Rattle.trace_numbers.specs.declared.faults.Finishes.{Finishes as rFinishes}

-- the number of the last scope if a table has it at a path, and everything else is unchanged
pub last_put : (b : Bool) (number : ℕ) (old : Option ℕ)
    → known_last (cond b (Some number) old) ≡ (if b then number else known_last old)
last_put true number old = refl
last_put false number old = refl

pub last_put_at : (key path other : List ℕ) (number : ℕ) (old new : Option ℕ) → AllZip (λ x y. y ≡ x) path key
    → new ≡ cond (pointwise nat_eq key other) (Some number) old
    → known_last new ≡ (if pointwise nat_eq path other then number else known_last old)
last_put_at key path other number old new cloned is =
    ap known_last (is ∙ ap (λ (p : List ℕ). cond (pointwise nat_eq p other) (Some number) old) (same_elements path key cloned))
    ∙ last_put (pointwise nat_eq path other) number old

-- another number at a path, where the rest is as it was
pub number_there : (b : Bool) (number before after : ℕ) → before ≡ after
    → (if b then number else before) ≡ (if b then number else after)
number_there true number before after same = refl
number_there false number before after same = same

-- ---- from event to event
-- the first events led to it, and those after them lead on to all finishes with faults
pub record AreFound (es : List Event) (i : ℕ) (r : rFinishes) : Type 0 where
  pub finishes : Finishes
  pub shows : ShowsFinishes r finishes
  pub rest : (finishes_after (drop i es) finishes).found ≡ faults_of es

pub found_at_first : (es : List Event) (r : rFinishes) → ShowsFinishes r no_finishes → AreFound es 0 r
found_at_first es r shows = record { finishes = no_finishes; shows = shows; rest = refl }

pub found_more : (es : List Event) (i : ℕ) (e d : Event) (old new : rFinishes) → i < length es → e ≡ get_or es i d
    → AreFound es i old → ((f : Finishes) → ShowsFinishes old f → ShowsFinishes new (told e f)) → AreFound es (i + 1) new
found_more es i e d old new there is at goes = record {
  finishes = told e at.finishes;
  shows = goes at.finishes at.shows;
  rest = ap (λ (l : List Event). (finishes_after l at.finishes).found)
      (sym (drop_more es i d there ∙ ap (λ (x : Event). x ∷ drop (i + 1) es) (sym is)))
      ∙ at.rest;
}

pub all_found : (es : List Event) (i : ℕ) (r : rFinishes) → length es ≤ i → AreFound es i r
    → map gathered r.found.items ≡ faults_of es
all_found es i r past at =
    at.shows.found ∙ ap (λ (l : List Event). (finishes_after l at.finishes).found) (sym (drop_all i es past)) ∙ at.rest

-- ---- a resume
-- one more finish with faults
pub one_more_found : (old : rFinishes) (f : Finishes) (path : List ℕ) (x : FinishFaults) (n : ℕ) → ShowsFinishes old f
    → 0 < n → gathered x ≡ record { owner = path; number = f.last path; faults = n }
    → map gathered (old.found.items ++ x ∷ []) ≡ with_faults path (f.last path) (Some n) f.found
one_more_found old f path x n shows some is =
    map-append gathered old.found.items (x ∷ [])
    ∙ ap₂ (λ (a : List Gathered) (g : Gathered). a ++ g ∷ []) shows.found is
    ∙ ap (λ (b : Bool). if b then f.found ++ record { owner = path; number = f.last path; faults = n } ∷ [] else f.found)
    (sym (lt-ltb 0 n some))
