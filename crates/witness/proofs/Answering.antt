-- The result for a race, from the shortest ways that meet in both directions.
use Rattle.std.proofs.Common.{◌≡◌, ◌⊎◌, inl, inr, ℕ, ◌+◌, ◌<◌, ◌≤◌, length, refl, sym, ◌∙◌, ap, subst, arith, true≢false}
use Rattle.std.proofs.lemmas.Bool.{cases_lt}
use Rattle.std.specs.Prelude.{Bool, true, false, Option, None, Some}
use Rattle.types.specs.Code.{Codes, Program}
use Rattle.effects.specs.Sound.{IsSound}
use Rattle.race_checker.specs.Races.{Race, IsRace, numbered}
use Rattle.witness.specs.Crossed.{Crossed, MeetIn, both, crossed, plain, toward}
use Rattle.witness.specs.Least.{AtMost, IsLesserOf, IsLeast, all_covered}
use Rattle.witness.specs.Meets.{Meets}
use Rattle.witness.specs.Witness.{IsShortest, PrefersFirst, PrefersThese, ShowIn, pending_one, later_one}
use Rattle.witness.specs.declared.crossing.Crossing.{Crossing}
use Rattle.witness.specs.declared.witness.Witness.{Witness}
use Rattle.witness.proofs.Leasts.{least_either}
use Rattle.witness.proofs.Showing.{shown}

abbrev pub size : Bool × Crossed → ℕ
size d = both d.1

-- two ways in one direction
record IsToward (f : Bool) (those : Crossed → Type 0) (d : Bool × Crossed) : Type 0 where
  way : d.0 ≡ f
  among : those d.1

least_toward : (f : Bool) (those : Crossed → Type 0) (found : Option Crossing) → IsLeast both all_covered those (crossed found)
    → IsLeast size all_covered (IsToward f those) (toward f found)
least_toward f those None h = record { among = tt; least = λ d q c. h.least d.1 q.among tt }
least_toward f those (Some c) h = record {
  among = record { way = refl; among = h.among };
  least = λ d q c. h.least d.1 q.among tt;
}

module _ (p : Program) (b : Codes) (r : Race) where
  abbrev Forth : Bool × Crossed → Type 0
  Forth = IsToward true (MeetIn p b r.first r.second)

  abbrev Back : Bool × Crossed → Type 0
  Back = IsToward false (MeetIn p b r.second r.first)

  forth : (f : Bool) (c : Crossed) → f ≡ true → MeetIn p b r.first r.second c → ShowIn p b r (f, c)
  forth true c e m = m
  forth false c e m = absurd (true≢false (sym e))

  back : (f : Bool) (c : Crossed) → f ≡ false → MeetIn p b r.second r.first c → ShowIn p b r (f, c)
  back true c e m = absurd (true≢false e)
  back false c e m = m

  cases : (f : Bool) (c : Crossed) → ShowIn p b r (f, c) → Forth (f, c) ⊎ Back (f, c)
  cases true c m = inl (record { way = refl; among = m })
  cases false c m = inr (record { way = refl; among = m })

  -- for both directions
  pub least_directed : (one other : Option Crossing) (found : Option (Bool × Crossed)) → IsLesserOf size (toward true one) (toward false other) found
      → IsLeast both all_covered (MeetIn p b r.first r.second) (crossed one) → IsLeast both all_covered (MeetIn p b r.second r.first) (crossed other)
      → IsLeast size all_covered (ShowIn p b r) found
  least_directed one other found lesser h k =
      least_either size all_covered Forth Back (ShowIn p b r) (toward true one) (toward false other) found lesser
      (λ d q. forth d.0 d.1 q.way q.among) (λ d q. back d.0 d.1 q.way q.among) (λ d q. cases d.0 d.1 q)
      (least_toward true (MeetIn p b r.first r.second) one h) (least_toward false (MeetIn p b r.second r.first) other k)

-- a race is found
pub race_found : (p : Program) (r : Race) (b : Codes) (found : Option (Bool × Crossed)) → IsSound p → (numbered p r.procedure).body ≡ b
    → IsLeast size all_covered (ShowIn p b r) found → found ≡ None → IsRace p r → ⊥
race_found p r b found sound e h none race =
    let s = shown p sound r race in
    let m : Meets p b s.meeting s.pending s.later (pending_one s.first_pends r) (later_one s.first_pends r) =
    subst (λ (c : Codes). Meets p c s.meeting s.pending s.later (pending_one s.first_pends r) (later_one s.first_pends r)) e s.shows in
    subst (λ (o : Option (Bool × Crossed)). AtMost size o (length s.pending + length s.later)) none
    (h.least (s.first_pends, record { meeting = s.meeting; pending = s.pending; later = s.later }) m tt)

-- what is found has no more steps than any
pub found_fewest : (p : Program) (r : Race) (b : Codes) (w : Witness) (d : Bool × Crossed) → (numbered p r.procedure).body ≡ b
    → both d.1 ≡ length w.pending.items + length w.later.items → IsLeast size all_covered (ShowIn p b r) (Some d) → IsShortest p r w
found_fewest p r b w d e same h = record {
  fewest = λ f kind one other m.
      let fewer : both d.1 ≤ length one + length other =
      h.least (f, record { meeting = kind; pending = one; later = other })
      (subst (λ (c : Codes). Meets p c kind one other (pending_one f r) (later_one f r)) e m) tt in
      omega (arith, fewer, same);
}

abbrev direction : Option (Bool × Crossed) → Bool
direction None = false
direction (Some d) = d.0

abbrev steps_of : Option (Bool × Crossed) → ℕ
steps_of None = 0
steps_of (Some d) = size d

-- of two as short the first direction is found
pub prefers_forth : (those : Crossed → Type 0) (one other : Option Crossing) (found : Option (Bool × Crossed))
    → IsLesserOf size (toward true one) (toward false other) found
    → IsLeast both all_covered those (crossed one) → PrefersThese those found
prefers_forth those None other found l h = record { more = λ d is back c m. absurd (h.least c m tt) }
prefers_forth those (Some a) other found l h = record { more = more }
  where
    not_forth : (d : Bool × Crossed) → found ≡ Some d → d.0 ≡ false → found ≡ Some (true, plain a) → ⊥
    not_forth d is back e = true≢false (ap direction (sym e ∙ is) ∙ back)

    fewer : (o : Option Crossing) → (found ≡ toward false o)
        → ((x y : Bool × Crossed) → Some (true, plain a) ≡ Some x → toward false o ≡ Some y → size x ≤ size y → found ≡ Some (true, plain a))
        → (d : Bool × Crossed) → found ≡ Some d → d.0 ≡ false → size d < both (plain a)
    fewer None e kept d is back = let k : None ≡ Some d = sym e ∙ is in absurd cc
    fewer (Some b) e kept d is back =
        let same : both (plain b) ≡ size d = ap steps_of (sym e ∙ is) in
        elim (cases_lt (both (plain b)) (both (plain a))) [
          | inl less ↦ omega (arith, same, less)
          | inr most ↦ absurd (not_forth d is back (kept (true, plain a) (false, plain b) refl refl most))
        ]

    more : (d : Bool × Crossed) → found ≡ Some d → d.0 ≡ false → (c : Crossed) → those c → both d.1 < both c
    more d is back c m =
        let least : both (plain a) ≤ both c = h.least c m tt in
        elim l.either [
          | inl e ↦ absurd (not_forth d is back e)
          | inr e ↦ (let less : size d < both (plain a) = fewer other e l.kept d is back in omega (arith, less, least))
        ]

-- the witness that is found
pub prefers_first : (p : Program) (r : Race) (b : Codes) (w : Witness) (d : Bool × Crossed) → (numbered p r.procedure).body ≡ b
    → w.first_pends ≡ d.0 → both d.1 ≡ length w.pending.items + length w.later.items
    → PrefersThese (MeetIn p b r.first r.second) (Some d) → PrefersFirst p r w
prefers_first p r b w d e way same h = record {
  more = λ back kind one other m.
      let less : both d.1 < length one + length other =
      h.more d refl (sym way ∙ back) (record { meeting = kind; pending = one; later = other })
      (subst (λ (c : Codes). Meets p c kind one other r.first r.second) e m) in
      omega (arith, less, same);
}
