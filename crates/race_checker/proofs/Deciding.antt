-- Whether a sound program is accepted is computed.
use Rattle.std.proofs.Common.{◌≡◌, ℕ, zero, suc, ◌+◌, ◌-◌, ◌<◌, ◌≤◌, length, refl, sym, ap, subst, arith}
use Rattle.std.proofs.lemmas.Bool.{and_from, ltb-true, ltb-false, and_parts, not-true}
use Rattle.std.specs.Prelude.{◌↔◌, Bool, true, false, not, nat_lt}
use Rattle.types.specs.Code.{Procedure, Program}
use Rattle.types.specs.Run.{procedure_of, no_procedure}
use Rattle.effects.specs.Sound.{IsSound}
use Rattle.effects.specs.Rounds.{summaries, pending_summaries}
use Rattle.effects.proofs.StableRounds.{past_end, summaries_derived, pending_summaries_derived, summaries_stable}
use Rattle.effects.proofs.StableRounds.{pending_summaries_stable}
use Rattle.race_checker.specs.Acceptance.{has_clash, accepts, accepts_below, is_accepted}
use Rattle.race_checker.specs.Clash.{HasNoClash, IsAccepted}
use Rattle.race_checker.proofs.Clashing.{has_clash-exact}

module _ (p : Program) (sound : IsSound p) where
  exact : (g : Procedure) → (has_clash (summaries p) (pending_summaries p) g ≡ false) ↔ HasNoClash p g
  exact = has_clash-exact p (summaries p) (pending_summaries p) (summaries_derived p) (summaries_stable p sound)
      (pending_summaries_derived p) (pending_summaries_stable p sound)

  accepts-no_clash : (g : Procedure) → accepts p g ≡ true → HasNoClash p g
  accepts-no_clash g h = (exact g).0 (not-true (has_clash (summaries p) (pending_summaries p) g) h)

  no_clash-accepts : (g : Procedure) → HasNoClash p g → accepts p g ≡ true
  no_clash-accepts g h = ap not ((exact g).1 h)

  record IsFree (f : ℕ) : Type 0 where
    free : HasNoClash p (procedure_of p f)

  free_below : (n f : ℕ) → accepts_below p n ≡ true → (j : ℕ) → suc j + f ≡ n → IsFree f
  free_below zero f h j e = absurd (omega (arith, e))
  free_below (suc n) f h zero e =
      let k = and_parts (accepts p (procedure_of p n)) (accepts_below p n) h in
      subst IsFree (let i : n ≡ f = omega (arith, e) in i) (record { free = accepts-no_clash (procedure_of p n) k.0 })
  free_below (suc n) f h (suc j) e =
      let k = and_parts (accepts p (procedure_of p n)) (accepts_below p n) h in
      free_below n f k.1 j (omega (arith, e))

  none_there : (f : ℕ) → length p.procedures ≤ f → HasNoClash p (procedure_of p f)
  none_there f h = subst (HasNoClash p) (sym (past_end p.procedures f h)) nothing
    where
      nothing : HasNoClash p no_procedure
      nothing x y t c = elim t [ ]

  all_free : accepts_below p (length p.procedures) ≡ true → (f : ℕ) → HasNoClash p (procedure_of p f)
  all_free h f = by_test (nat_lt f (length p.procedures)) refl
    where
      by_test : (t : Bool) → nat_lt f (length p.procedures) ≡ t → HasNoClash p (procedure_of p f)
      by_test true e =
          let lt : f < length p.procedures = ltb-true f (length p.procedures) e in
          (free_below (length p.procedures) f h (length p.procedures - f - 1) (omega (arith, lt))).free
      by_test false e = none_there f (ltb-false f (length p.procedures) e)

  below_free : ((f : ℕ) → HasNoClash p (procedure_of p f)) → (n : ℕ) → accepts_below p n ≡ true
  below_free h zero = refl
  below_free h (suc n) =
      and_from (accepts p (procedure_of p n)) (accepts_below p n) (no_clash-accepts (procedure_of p n) (h n)) (below_free h n)

  tested : is_accepted p ≡ true → IsAccepted p
  tested h =
      let k = and_parts (accepts p p.main) (accepts_below p (length p.procedures)) h in
      record { procedures = all_free k.1; main = accepts-no_clash p.main k.0 }

  -- the test is exact
  pub accepted_exact : (is_accepted p ≡ true) ↔ IsAccepted p
  accepted_exact = (
    tested,
    λ a. and_from (accepts p p.main) (accepts_below p (length p.procedures)) (no_clash-accepts p.main a.main)
        (below_free a.procedures (length p.procedures)),
  )
