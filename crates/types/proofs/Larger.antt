-- A larger budget doesn't change an ended outcome.
use Rattle.std.proofs.Common.{◌≡◌, ℕ, zero, suc, ◌+◌, ◌-◌, ◌≤◌, List, [], refl, sym, ap, ◌∙◌, subst, inl, inr, arith, le_refl}
use Rattle.std.specs.Prelude.{ℤ, ◌⊎◌}
use Rattle.types.specs.Code.{Codes, Program}
use Rattle.types.specs.Contents.{held_by}
use Rattle.types.specs.Run.{Flow, State, Rules, Work, Block, within, run}
use Rattle.types.specs.Meaning.{hushed, joined, child, after_async, after_body, after_finish, begin_one, one_rules, one}
use Rattle.types.specs.Outcome.{Budget, IsLarger, Ending, Outcome, Ended, Stopped, start, outcome_by, ending_of, outcome_of, outcome, Means}
use Rattle.types.specs.Laws.{IsThrifty}
use Rattle.types.proofs.Solutions.{solves}
use Rattle.types.proofs.Views.{View, viewed, Follows, IsView, begin_at, work_follows}

abbrev S : Type 0
S = State (Unit {0})

abbrev rich : View ℕ (Unit {0}) (Unit {0})
rich = record { lines = λ d x. []; faults = λ d x. []; steps = λ d n. n + d; extra = λ d x. x }

-- the same state with d more steps
abbrev richer : ℕ → S → S
richer = viewed rich

abbrev IsStopped : S → Type 0
IsStopped st = st.flow ≡ Flow.Stopped

-- the one-thread rules give no step back
pub one_is_thrifty : (p : Program) (fresh nest : ℕ) → IsThrifty (one_rules p fresh nest)
one_is_thrifty p fresh nest = record {
  begin = λ l. begin_less nest;
  enter = λ l st. le_refl st.steps;
  leave = λ before out. le_refl out.steps;
}
  where
    begin_less : (n : ℕ) (b : Codes) (st : S) → (begin_one p fresh n b st).steps ≤ st.steps
    begin_less zero b st = le_refl st.steps
    begin_less (suc n) b st = le_refl st.steps

module _ (p : Program) (fresh more : ℕ) where
  -- a run with more steps, also more fresh ones, does the same, or the original run is stopped
  module _ (n m : ℕ) (begins : (b : Codes) → Follows rich IsStopped (begin_one p fresh n b) (begin_one p (fresh + more) m b)) where
    abbrev r : Rules (Unit {0})
    r = one_rules p fresh n

    abbrev s : Rules (Unit {0})
    s = one_rules p (fresh + more) m

    view : IsView rich IsStopped r s
    view = record {
      out_of_steps = λ d st. inl refl;
      one_less = λ d n. omega arith;
      stepped = λ d l st. refl;
      begin = λ l. begins;
      finish = finish_richer;
      earlier = λ d l go st. inr refl;
      stops = λ st e. e;
      lost_moved = λ st env e. e;
    }
      where
        finish_richer : (l : ℕ) (go to : S → S) → Follows rich IsStopped go to
            → Follows rich IsStopped (λ st. r.leave st (go (r.enter l st))) (λ st. s.leave st (to (s.enter l st)))
        finish_richer l go to h d st = left (go (hushed st)) (to (hushed (richer d st))) (h d (hushed st))
          where
            left : (out other : S) → IsStopped out ⊎ (other ≡ richer d out)
                → IsStopped (r.leave st out) ⊎ (s.leave (richer d st) other ≡ richer d (r.leave st out))
            left out other (inl e) = inl (ap (λ f. after_finish f out.faults) e)
            left out other (inr e) = inr (ap (s.leave (richer d st)) e)

    within_richer : (k : ℕ) (w : Work) → Follows rich IsStopped (within p r k w) (run p s w)
    within_richer zero w d st = inl refl
    within_richer (suc k) w d st =
        begin_at (solves p s (one_is_thrifty p (fresh + more) m) w (richer d st))
        (work_follows p r s rich IsStopped view (within p r k) (run p s) (within_richer k) w d st)

    run_richer : (w : Work) → Follows rich IsStopped (run p r w) (run p s w)
    run_richer w d st = within_richer (st.steps + 1) w d st

  begin_richer : (n m : ℕ) → n ≤ m → (b : Codes) → Follows rich IsStopped (begin_one p fresh n b) (begin_one p (fresh + more) m b)
  begin_richer zero m le b d st = inl refl
  begin_richer (suc n) zero le b d st = absurd (omega (arith, le))
  begin_richer (suc n) (suc m) le b d st =
      left (run p (one_rules p fresh n) (Block b) (child fresh st))
      (run p (one_rules p (fresh + more) m) (Block b) (child (fresh + more) (richer d st)))
      (run_richer n m (begin_richer n m (omega (arith, le))) (Block b) more (child fresh st))
    where
      left : (out other : S) → IsStopped out ⊎ (other ≡ richer more out)
          → IsStopped (after_body st out) ⊎ (after_body (richer d st) other ≡ richer d (after_body st out))
      left out other (inl e) = inl (ap after_async e)
      left out other (inr e) = inr (ap (after_body (richer d st)) e)

not_stopped : (e : Ending) → Stopped ≡ Ended e → ⊥
not_stopped e h = subst Is_stopped h tt
  where
    Is_stopped : Outcome → Type 0
    Is_stopped Stopped = Unit {0}
    Is_stopped (Ended e) = ⊥

larger_by : (p : Program) (input : List (List ℤ)) (fresh more n m : ℕ) (e : Ending) → n ≤ m
    → outcome p input (record { steps = fresh; nest = n }) ≡ Ended e → outcome p input (record { steps = fresh + more; nest = m }) ≡ Ended e
larger_by p input fresh more n m e le ends =
    by_run (one p fresh n (Block p.main.body) st) (one p (fresh + more) m (Block p.main.body) (richer more st))
    (run_richer p fresh more n m (begin_richer p fresh more n m le) (Block p.main.body) more st) ends
  where
    st : S
    st = start tt p fresh (held_by input)

    at_end : S → Outcome
    at_end out = outcome_of p ((one_rules p fresh n).leave st out)

    by_run : (out other : S) → IsStopped out ⊎ (other ≡ richer more out) → at_end out ≡ Ended e
        → outcome_of p ((one_rules p (fresh + more) m).leave (richer more st) other) ≡ Ended e
    by_run out other (inl stops) ends =
        absurd (not_stopped e (sym (ap (λ f. outcome_by (after_finish f out.faults) (ending_of p (joined st out))) stops) ∙ ends))
    by_run out other (inr same) ends = ap (λ o. outcome_of p ((one_rules p (fresh + more) m).leave (richer more st) o)) same ∙ ends

-- an ended outcome stays the same under a larger budget
pub larger_ends : (p : Program) (input : List (List ℤ)) (b larger : Budget) (e : Ending) → IsLarger larger b
    → outcome p input b ≡ Ended e → outcome p input larger ≡ Ended e
larger_ends p input b larger e is_larger ends =
    let steps : b.steps + (larger.steps - b.steps) ≡ larger.steps = let le = is_larger.steps in omega (arith, le) in
    subst (λ k. outcome p input (record { steps = k; nest = larger.nest }) ≡ Ended e) steps
    (larger_by p input b.steps (larger.steps - b.steps) b.nest larger.nest e is_larger.nest ends)

abbrev ending_or : Ending → Outcome → Ending
ending_or other (Ended e) = e
ending_or other Stopped = other

-- a program has at most one ending
pub one_ending : (p : Program) (input : List (List ℤ)) (e f : Ending) → Means p input e → Means p input f → e ≡ f
one_ending p input e f some other =
    let b = some.0 in
    let c = other.0 in
    let both : Budget = record { steps = b.steps + c.steps; nest = b.nest + c.nest } in
    let as_e = larger_ends p input b both e (record { steps = omega arith; nest = omega arith }) some.1 in
    let as_f = larger_ends p input c both f (record { steps = omega arith; nest = omega arith }) other.1 in
    ap (ending_or e) (sym as_e ∙ as_f)
