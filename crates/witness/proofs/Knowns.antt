-- The contents of the tables of ways.
use Rattle.std.proofs.Common.{◌≡◌, ◌⊎◌, inl, inr, ℕ, ◌+◌, ◌≤◌, ◌<◌, List, ◌∷◌, length, map, refl, sym, ap, ◌∙◌, subst, arith, Bor, Vec}
use Rattle.std.proofs.lemmas.Bool.{eqb-true, eq-eqb, and_parts, and_from, cases_lt}
use Rattle.std.proofs.lemmas.List.{length-map}
use Rattle.std.proofs.lemmas.Option.{slice_get_within, slice_get-map, slice_get_read, same_Some}
use Rattle.std.specs.Global.{Global}
use Rattle.std.specs.HashMap.{get}
use Rattle.std.specs.Option.{option_copied}
use Rattle.std.specs.Prelude.{Bool, true, false, not, Option, None, Some, cond, option_map, slice_get}
use Rattle.std.specs.Prelude.{slice_index_or, nat_eq}
use Rattle.sections.specs.Translation.{section}
use Rattle.sections.specs.declared.id.SectionId.{SectionId}
use Rattle.witness.specs.Known.{IsPut, is_key, steps, way_at, way_known, entry}
use Rattle.witness.specs.Least.{IsLesserOf, IsLeast, all_covered}
use Rattle.witness.specs.Searched.{GoesIn, IsFromParameter, IsLed}
use Rattle.witness.specs.declared.known.Entry.{Entry}
use Rattle.witness.specs.declared.known.Known.{Known}
use Rattle.witness.specs.declared.step.WayStep.{WayStep}
use Rattle.witness.proofs.Leasts.{least_none, least_same, least_either, least_itself, least_led_at}

-- ---- looking up
pub looked_up : (found : Option (Bor (Vec WayStep Global))) (o : Option (Vec WayStep Global)) → option_copied found ≡ o
    → option_map (λ way. way.now.items) found ≡ steps o
looked_up None o e = ap steps e
looked_up (Some way) o e = ap steps e

pub at_pending : (known : Known) (e : Entry) → e.pending ≡ true → steps (get is_key known.pending (e.procedure.number, e.parameter.number)) ≡ way_at known e
at_pending known e h = ap (λ m. way_known known m e.procedure.number e.parameter.number) (sym h)

pub at_done : (known : Known) (e : Entry) → e.pending ≡ false → steps (get is_key known.done (e.procedure.number, e.parameter.number)) ≡ way_at known e
at_done known e h = ap (λ m. way_known known m e.procedure.number e.parameter.number) (sym h)

-- ---- putting in
key_same : (f k : ℕ) → is_key (f, k) (f, k) ≡ true
key_same f k = and_from (nat_eq f f) (nat_eq k k) (eq-eqb f f refl) (eq-eqb k k refl)

entry_is : (e : Entry) (m : Bool) (f k : ℕ) → e.pending ≡ m → is_key (e.procedure.number, e.parameter.number) (f, k) ≡ true → e ≡ entry m f k
entry_is e m f k a h =
    let parts = and_parts (nat_eq e.procedure.number f) (nat_eq e.parameter.number k) h in
    ap (λ n. entry e.pending n e.parameter.number) (eqb-true e.procedure.number f parts.0)
    ∙ ap (λ n. entry e.pending f n) (eqb-true e.parameter.number k parts.1) ∙ ap (λ z. entry z f k) a

-- a table has the way at a key, and elsewhere its old contents
abbrev Updated : (f k : ℕ) → (way : Vec WayStep Global) → (old new : ℕ × ℕ → Option (Vec WayStep Global)) → Type 0
Updated f k way old new = (q : ℕ × ℕ) → new q ≡ cond (is_key (f, k) q) (Some way) (old q)

updated_here : (f k : ℕ) (way : Vec WayStep Global) (old new : ℕ × ℕ → Option (Vec WayStep Global)) → Updated f k way old new
    → steps (new (f, k)) ≡ Some way.items
updated_here f k way old new u = ap steps (u (f, k)) ∙ ap (λ t. steps (cond t (Some way) (old (f, k)))) (key_same f k)

updated_other : (e : Entry) (m : Bool) (f k : ℕ) (way : Vec WayStep Global) (old new : ℕ × ℕ → Option (Vec WayStep Global)) → e.pending ≡ m
    → Updated e.procedure.number e.parameter.number way old new → (steps (new (f, k)) ≡ steps (old (f, k))) ⊎ (e ≡ entry m f k)
updated_other e m f k way old new is u = by (is_key (e.procedure.number, e.parameter.number) (f, k)) refl
  where
    by : (t : Bool) → is_key (e.procedure.number, e.parameter.number) (f, k) ≡ t → (steps (new (f, k)) ≡ steps (old (f, k))) ⊎ (e ≡ entry m f k)
    by true h = inr (entry_is e m f k is h)
    by false h = inl (ap steps (u (f, k)) ∙ ap (λ t. steps (cond t (Some way) (old (f, k)))) h)

-- the table for what is left pending, and that for what is done
abbrev table : Known → (pending : Bool) → ℕ × ℕ → Option (Vec WayStep Global)
table known true q = get is_key known.pending q
table known false q = get is_key known.done q

table_has : (known : Known) (m : Bool) (e : Entry) → e.pending ≡ m
    → steps (table known m (e.procedure.number, e.parameter.number)) ≡ way_at known e
table_has known true e = at_pending known e
table_has known false e = at_done known e

-- one table has one more way, and the other is unchanged
put_in : (m : Bool) (e : Entry) (way : Vec WayStep Global) (old new : Known) → e.pending ≡ m
    → ((q : ℕ × ℕ) → table new (not m) q ≡ table old (not m) q)
    → Updated e.procedure.number e.parameter.number way (table old m) (table new m)
    → IsPut e way.items old new
put_in m e way old new is same u = record {
  here = sym (table_has new m e is)
      ∙ updated_here e.procedure.number e.parameter.number way (table old m) (table new m) u;
  others = λ n f k. by m n f k is same u;
}
  where
    by : (t n : Bool) (f k : ℕ) → e.pending ≡ t → ((q : ℕ × ℕ) → table new (not t) q ≡ table old (not t) q)
        → Updated e.procedure.number e.parameter.number way (table old t) (table new t)
        → (way_known new n f k ≡ way_known old n f k) ⊎ (e ≡ entry n f k)
    by true true f k is same u = updated_other e true f k way (table old true) (table new true) is u
    by false false f k is same u = updated_other e false f k way (table old false) (table new false) is u
    by true false f k is same u = inl (ap steps (same (f, k)))
    by false true f k is same u = inl (ap steps (same (f, k)))

pub put_pending : (e : Entry) (way : Vec WayStep Global) (old new : Known) → e.pending ≡ true → new.done ≡ old.done
    → ((q : ℕ × ℕ) → get is_key new.pending q ≡ cond (is_key (e.procedure.number, e.parameter.number) q) (Some way) (get is_key old.pending q))
    → IsPut e way.items old new
put_pending e way old new is same u = put_in true e way old new is (λ q. ap (λ t. get is_key t q) same) u

pub put_done : (e : Entry) (way : Vec WayStep Global) (old new : Known) → e.pending ≡ false → new.pending ≡ old.pending
    → ((q : ℕ × ℕ) → get is_key new.done q ≡ cond (is_key (e.procedure.number, e.parameter.number) q) (Some way) (get is_key old.done q))
    → IsPut e way.items old new
put_done e way old new is same u = put_in false e way old new is (λ q. ap (λ t. get is_key t q) same) u

-- the same fact, with the key that was computed
pub by_key : (f k : ℕ) (key : ℕ × ℕ) (way : Vec WayStep Global) (old new : ℕ × ℕ → Option (Vec WayStep Global)) → key ≡ (f, k)
    → ((q : ℕ × ℕ) → new q ≡ cond (is_key key q) (Some way) (old q)) → (q : ℕ × ℕ) → new q ≡ cond (is_key (f, k) q) (Some way) (old q)
by_key f k key way old new e u q = u q ∙ ap (λ z. cond (is_key z q) (Some way) (old q)) e

-- ---- through a call
module _ (known : Known) (e : Entry) (first : WayStep) where
  pub least_known : (passes : Type 0) (found : Option (List WayStep)) → found ≡ option_map (λ way. first ∷ way) (way_at known e) → passes
      → IsLeast length all_covered (IsFromParameter known e passes first) found
  least_known passes found is passed =
      least_same length all_covered (IsLed first (λ way. way_at known e ≡ Some way)) (IsFromParameter known e passes first) found
      (λ way led. record { passed = passed; led = led }) (λ way from. from.led)
      (least_led_at all_covered first (λ way. way_at known e ≡ Some way) (way_at known e) found is (λ n c. tt)
      (least_itself length (way_at known e)))

  pub least_unpassed : (passes : Type 0) → (passes → ⊥) → IsLeast length all_covered (IsFromParameter known e passes first) None
  least_unpassed passes none = least_none length all_covered (IsFromParameter known e passes first) (λ way from. none from.passed)

module _ (known : Known) (m : Bool) (f : ℕ) (sections : List SectionId) (s : ℕ) (first : WayStep) where
  abbrev Through : List WayStep → Type 0
  Through = GoesIn known m f (map section sections) s first

  -- one of the first parameters
  pub record GoesBelow (count : ℕ) (way : List WayStep) : Type 0 where
    pub goes : Through way
    pub below : goes.parameter < count

  pub below_none : IsLeast length all_covered (GoesBelow 0) None
  below_none = least_none length all_covered (GoesBelow 0) (λ way g. let h = g.below in absurd (omega (arith, h)))

  passed_at : (i : ℕ) (x : SectionId) → i < length sections → x ≡ slice_index_or sections i x → slice_get (map section sections) i ≡ Some x.number
  passed_at i x within is =
      slice_get-map section sections i ∙ ap (option_map section) (slice_get_read sections (length sections) i x refl within is)

  pub below_more : (i : ℕ) (x : SectionId) (e : Entry) (one best found : Option (List WayStep)) → i < length sections → x ≡ slice_index_or sections i x
      → e ≡ entry m f i → IsLesserOf length best one found → IsLeast length all_covered (IsFromParameter known e (x.number ≡ s) first) one
      → IsLeast length all_covered (GoesBelow i) best → IsLeast length all_covered (GoesBelow (i + 1)) found
  below_more i x e one best found within is at lesser h k =
      least_either length all_covered (GoesBelow i) (IsFromParameter known e (x.number ≡ s) first) (GoesBelow (i + 1)) best one found lesser
      (λ way g. let b = g.below in record { goes = g.goes; below = omega (arith, b) }) (λ way from. record {
        goes = record {
          parameter = i;
          passed = passed_at i x within is ∙ ap Some from.passed;
          led = subst (λ (y : Entry). IsLed first (λ behind. way_at known y ≡ Some behind) way) at from.led;
        };
        below = omega arith;
      }) (λ way g. by way g) k h
    where
      by : (way : List WayStep) → GoesBelow (i + 1) way → GoesBelow i way ⊎ IsFromParameter known e (x.number ≡ s) first way
      by way g = elim (cases_lt g.goes.parameter i) [
        | inl less ↦ inl (record { goes = g.goes; below = less })
        | inr past ↦
            let below = g.below in
            let same : g.goes.parameter ≡ i = omega (arith, below, past) in
            inr (record {
              passed = same_Some x.number s (sym (passed_at i x within is) ∙ ap (slice_get (map section sections)) (sym same) ∙ g.goes.passed);
              led = subst (λ (y : Entry). IsLed first (λ behind. way_at known y ≡ Some behind) way) (ap (entry m f) same ∙ sym at) g.goes.led;
            })
      ]

  pub below_all : (n : ℕ) (found : Option (List WayStep)) → length sections ≤ n → IsLeast length all_covered (GoesBelow n) found
      → IsLeast length all_covered Through found
  below_all n found all h =
      least_same length all_covered (GoesBelow n) Through found (λ way g. g.goes)
      (λ way g. record { goes = g; below = let b = slice_get_within (map section sections) g.parameter s g.passed in omega (arith, b, all, length-map sections section) }) h
