-- The races of a program are those of its procedures and of `main`.
use Rattle.std.proofs.Common.{◌≡◌, ◌≢◌, ◌⊎◌, inl, inr, ℕ, zero, suc, ◌+◌, ◌<◌, ◌≤◌, List, [], ◌∷◌, length, refl, sym, ap, ◌∙◌, subst}
use Rattle.std.proofs.Common.{arith, map, fold, Result, Ok, IfOk}
use Rattle.std.proofs.lemmas.List.{get_or_past}
use Rattle.std.proofs.lemmas.Option.{slice_get_within}
use Rattle.std.proofs.lemmas.Bool.{eq-eqb, ne_eqb, eqb-true, eqb-false, ltb-true, ltb-false}
use Rattle.std.specs.Prelude.{Bool, true, false, Option, None, nat_eq, nat_lt, if◌then◌else◌}
use Rattle.std.specs.List.{AllZip, range_with_len}
use Rattle.sections.specs.Origins.{Root}
use Rattle.types.specs.Code.{Codes, End, Procedure, Program}
use Rattle.types.specs.Run.{procedure_of, no_procedure}
use Rattle.effects.specs.Accesses.{Access}
use Rattle.effects.specs.Effects.{accesses, All, Pending}
use Rattle.effects.specs.Firsts.{AreFirsts}
use Rattle.effects.specs.Rows.{Renamed}
use Rattle.effects.specs.Sound.{IsSoundIn, IsSound, parameters_of}
use Rattle.effects.proofs.FirstLabels.{firsts_of_none}
use Rattle.effects.proofs.Members.{numbers_from-below}
use Rattle.parallel_relation.specs.Together.{Together}
use Rattle.race_checker.specs.Clash.{HasNoClash, IsAccepted}
use Rattle.race_checker.specs.Found.{Stands}
use Rattle.race_checker.specs.Races.{Race, Clashes, IsRaceIn, IsRace, LeastOf, numbered}
use Rattle.race_checker.specs.Search.{race_of, lesser_of}
use Rattle.race_checker.specs.Translation.{found as race_found}
use Rattle.race_checker.specs.declared.race.Race.{Race as rRace}
use Rattle.race_checker.proofs.LeastRaces.{least_same, least_of_both, race_of-clashes}

-- The procedure of a number

pub numbered_main : (p : Program) → numbered p (length p.procedures) ≡ p.main
numbered_main p = ap (λ b. if b then p.main else procedure_of p (length p.procedures)) (eq-eqb (length p.procedures) (length p.procedures) refl)

pub numbered_other : (p : Program) (f : ℕ) → f ≢ length p.procedures → numbered p f ≡ procedure_of p f
numbered_other p f h = ap (λ b. if b then p.main else procedure_of p f) (ne_eqb f (length p.procedures) h)

-- Sound procedures follow the rules

stands_in : (p : Program) (g h : Procedure) → IsSoundIn p g → g.sections ≡ h.sections → g.body ≡ h.body → Stands p h.sections h.body
stands_in p g h sound e d =
    subst (λ (b : Codes). Stands p h.sections b) d (record {
      around = record {
        procedure = g;
        scope = parameters_of g;
        same = e;
        numbered = sound.numbered;
        below = λ s m.
            let k : s < length g.sections =
            slice_get_within g.sections s Root (sound.first s (numbers_from-below (length g.parameters) s m)) in
            let l : length g.sections ≡ length h.sections = ap length e in
            omega arith;
      };
      follows = sound.body;
    })

pub numbered_stands : (p : Program) (f : ℕ) → IsSound p → Stands p (numbered p f).sections (numbered p f).body
numbered_stands p f sound = by (nat_eq f (length p.procedures)) refl
  where
    by : (b : Bool) → nat_eq f (length p.procedures) ≡ b → Stands p (numbered p f).sections (numbered p f).body
    by true e =
        let is : p.main ≡ numbered p f =
        sym (numbered_main p) ∙ ap (numbered p) (sym (eqb-true f (length p.procedures) e)) in
        subst (λ (g : Procedure). Stands p g.sections g.body) is (stands_in p p.main p.main sound.main refl refl)
    by false e =
        subst (λ (g : Procedure). Stands p g.sections g.body) (sym (numbered_other p f (eqb-false f (length p.procedures) e)))
        (stands_in p (procedure_of p f) (procedure_of p f) (sound.procedures f) refl refl)

-- Races by the numbers of their procedures

-- a race in one of the first procedures
pub record IsRaceBelow (p : Program) (n : ℕ) (r : Race) : Type 0 where
  pub below : r.procedure < n
  pub race : IsRace p r

race_in : (p : Program) (f : ℕ) (r : Race) → IsRaceIn p f r → IsRace p r
race_in p f r c = subst (λ n. IsRaceIn p n r) (sym c.procedure) c

pub none_below : (p : Program) (found : Option Race) → found ≡ None → LeastOf (IsRaceBelow p 0) found
none_below p found e =
    subst (LeastOf (IsRaceBelow p 0)) (sym e) (λ r c. let h : r.procedure < 0 = c.below in absurd (omega arith))

pub least_below_more : (p : Program) (n : ℕ) (r s whole : Option Race) → LeastOf (IsRaceBelow p n) r → LeastOf (IsRaceIn p n) s
    → whole ≡ lesser_of r s → LeastOf (IsRaceBelow p (n + 1)) whole
least_below_more p n r s whole h g e =
    subst (LeastOf (IsRaceBelow p (n + 1))) (sym e)
    (least_same (λ x. IsRaceBelow p n x ⊎ IsRaceIn p n x) (IsRaceBelow p (n + 1)) (lesser_of r s) out back
    (least_of_both (IsRaceBelow p n) (IsRaceIn p n) r s h g))
  where
    out : (x : Race) → IsRaceBelow p n x ⊎ IsRaceIn p n x → IsRaceBelow p (n + 1) x
    out x (inl c) = record { below = let k : x.procedure < n = c.below in omega arith; race = c.race }
    out x (inr c) = record { below = let k : x.procedure ≡ n = c.procedure in omega arith; race = race_in p n x c }

    back : (x : Race) → IsRaceBelow p (n + 1) x → IsRaceBelow p n x ⊎ IsRaceIn p n x
    back x c = by (nat_eq x.procedure n) refl
      where
        by : (b : Bool) → nat_eq x.procedure n ≡ b → IsRaceBelow p n x ⊎ IsRaceIn p n x
        by true d = inr (subst (λ m. IsRaceIn p m x) (eqb-true x.procedure n d) c.race)
        by false d =
            let k : x.procedure < n + 1 = c.below in
            let ne : x.procedure ≢ n = eqb-false x.procedure n d in
            inl (record { below = omega arith; race = c.race })

-- what was found of each procedure from this number, with what was found before
pub least_of_more : (p : Program) (E : Type 0) (n k : ℕ) (before : Option Race) (races : List (Option rRace))
    → LeastOf (IsRaceBelow p n) before
    → AllZip (λ f (r : Result (Option rRace) E). IfOk r (λ race. LeastOf (IsRaceIn p f) (race_found race))) (range_with_len n k)
    (map Ok races)
    → LeastOf (IsRaceBelow p (n + k)) (fold lesser_of before (map race_found races))
least_of_more p E n zero before [] least h =
    let same : n ≡ n + 0 = omega arith in
    subst (λ m. LeastOf (IsRaceBelow p m) before) same least
least_of_more p E n zero before (r ∷ races) least h = absurd h
least_of_more p E n (suc k) before [] least h = absurd h
least_of_more p E n (suc k) before (r ∷ races) least h =
    let same : n + 1 + k ≡ n + suc k = omega arith in
    subst (λ m. LeastOf (IsRaceBelow p m) (fold lesser_of (lesser_of before (race_found r)) (map race_found races))) same
    (least_of_more p E (n + 1) k (lesser_of before (race_found r)) races
    (least_below_more p n before (race_found r) (lesser_of before (race_found r)) least h.0 refl) h.1)

none_together : (p : Program) (g : Procedure) (x y : Access) → g ≡ no_procedure → Together p accesses g.body x y → ⊥
none_together p g x y e h = ended (subst (λ (q : Procedure). Together p accesses q.body x y) e h)
  where
    ended : Together p accesses End x y → ⊥
    ended k = elim k [ ]

-- there is no race after `main`
race_is_numbered : (p : Program) (r : Race) → IsRace p r → r.procedure < length p.procedures + 1
race_is_numbered p r c = by (nat_lt (length p.procedures) r.procedure) refl
  where
    by : (b : Bool) → nat_lt (length p.procedures) r.procedure ≡ b → r.procedure < length p.procedures + 1
    by false e = let h : r.procedure ≤ length p.procedures = ltb-false (length p.procedures) r.procedure e in omega arith
    by true e =
        let h : length p.procedures < r.procedure = ltb-true (length p.procedures) r.procedure e in
        let ne : r.procedure ≢ length p.procedures = omega arith in
        let is : numbered p r.procedure ≡ no_procedure =
        numbered_other p r.procedure ne ∙ get_or_past p.procedures r.procedure no_procedure (omega arith) in
        absurd (elim c.pair [
          | inl a ↦ none_together p (numbered p r.procedure) r.first r.second is a
          | inr b ↦ none_together p (numbered p r.procedure) r.second r.first is b
        ])

pub least_of_program : (p : Program) (n : ℕ) (found : Option Race) → length p.procedures + 1 ≤ n → LeastOf (IsRaceBelow p n) found
    → LeastOf (IsRace p) found
least_of_program p n found h least =
    least_same (IsRaceBelow p n) (IsRace p) found (λ x c. c.race)
    (λ x c. record { below = let k : x.procedure < length p.procedures + 1 = race_is_numbered p x c in omega arith; race = c })
    least

-- Acceptance

no_clash_in : (p : Program) (f : ℕ) (g : Procedure) → numbered p f ≡ g → ((r : Race) → IsRace p r → ⊥) → HasNoClash p g
no_clash_in p f g e never x y t c =
    let k : Clashes g.sections f (Together p accesses g.body) (race_of f (x, y)) =
    race_of-clashes g.sections f (Together p accesses g.body) x y t c in
    never (race_of f (x, y))
    (race_in p f (race_of f (x, y))
    (subst (λ (q : Procedure). Clashes q.sections f (Together p accesses q.body) (race_of f (x, y))) (sym e) k))

pub accepted_from : (p : Program) → ((r : Race) → IsRace p r → ⊥) → IsAccepted p
accepted_from p never = record {
  procedures = λ f. by f (nat_lt f (length p.procedures)) refl;
  main = no_clash_in p (length p.procedures) p.main (numbered_main p) never;
}
  where
    by : (f : ℕ) (b : Bool) → nat_lt f (length p.procedures) ≡ b → HasNoClash p (procedure_of p f)
    by f true e =
        let h : f < length p.procedures = ltb-true f (length p.procedures) e in
        no_clash_in p f (procedure_of p f) (numbered_other p f (omega arith)) never
    by f false e = λ x y t c.
        let h : length p.procedures ≤ f = ltb-false f (length p.procedures) e in
        none_together p (procedure_of p f) x y (get_or_past p.procedures f no_procedure h) t

-- A call of no procedure

no_items : (p : Program) (g : Procedure) (x : Access) → g ≡ no_procedure → All p accesses g.body x → ⊥
no_items p g x e h = elim (subst (λ (k : Procedure). All p accesses k.body x) e h) [ ]

none_pending : (p : Program) (g : Procedure) (x : Access) → g ≡ no_procedure → Pending p accesses g.body x → ⊥
none_pending p g x e h = elim (subst (λ (k : Procedure). Pending p accesses k.body x) e h) [ ]

pub nothing_behind_all : (p : Program) (f : ℕ) (out : ℕ → ℕ) → length p.procedures ≤ f → (xs : List Access) → xs ≡ []
    → AreFirsts (Renamed p accesses out (All p accesses (procedure_of p f).body)) xs
nothing_behind_all p f out h xs e =
    firsts_of_none _ xs e (λ x r. no_items p (procedure_of p f) r.item (get_or_past p.procedures f no_procedure h) r.among)

pub nothing_behind_pending : (p : Program) (f : ℕ) (out : ℕ → ℕ) → length p.procedures ≤ f → (xs : List Access) → xs ≡ []
    → AreFirsts (Renamed p accesses out (Pending p accesses (procedure_of p f).body)) xs
nothing_behind_pending p f out h xs e =
    firsts_of_none _ xs e (λ x r. none_pending p (procedure_of p f) r.item (get_or_past p.procedures f no_procedure h) r.among)
