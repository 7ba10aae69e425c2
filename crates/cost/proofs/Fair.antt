-- No chain is longer than the work, and no task and no finish starts without a step.
use Rattle.std.proofs.Common.{◌≡◌, ℕ, zero, suc, ◌+◌, ◌-◌, ◌≤◌, List, Bool, true, false, if◌then◌else◌, refl, sym, subst, arith}
use Rattle.std.proofs.Math.Nat.{max-le}
use Rattle.std.specs.Prelude.{nat_lt, ℤ}
use Rattle.types.specs.Code.{Codes, Program}
use Rattle.types.specs.Contents.{held_by}
use Rattle.types.specs.Meaning.{child}
use Rattle.types.specs.Outcome.{Budget, start}
use Rattle.types.specs.Run.{State, Block, run}
use Rattle.types.specs.Laws.{IsKept}
use Rattle.types.proofs.Keeps.{run_keeps}
use Rattle.cost.specs.declared.tally.Tally.{Tally}
use Rattle.cost.specs.Books.{begin_booked, beginning_booked}
use Rattle.cost.specs.Costs.{as_small, nothing_done, tally_of, tallying}
use Rattle.cost.specs.Laws.{IsFair}
use Rattle.cost.proofs.Untallied.{tallied_rules}

-- one tally follows another fairly: it is fair if the other was, and has at least as much work, and
-- at most one more small task for each further task
record Grows (t u : Tally) : Type 0 where
  pub fair : IsFair t → IsFair u
  pub more : t.work ≤ u.work
  pub small : u.small + t.tasks ≤ t.small + u.tasks

-- a task counts once
once : (n : ℕ) → as_small n ≤ 1
once n = by_test (nat_lt n 1000)
  where
    by_test : (b : Bool) → (if b then 1 else 0) ≤ 1
    by_test true = omega arith
    by_test false = omega arith

abbrev Fairly : State Tally → State Tally → Type 0
Fairly st to = Grows st.extra to.extra

grows_same : (t u : Tally) → u ≡ t → Grows t u
grows_same t u e = subst (λ (u : Tally). Grows t u) (sym e) (record { fair = λ f. f; more = omega arith; small = omega arith })

grows_further : (t u v : Tally) → Grows t u → Grows u v → Grows t v
grows_further t u v g h = record {
  fair = λ f. h.fair (g.fair f);
  more = omega (arith, g.more, h.more);
  small = omega (arith, g.small, h.small);
}

module _ (p : Program) (fresh : ℕ) where
  kept_by : (n : ℕ) → ((l : ℕ) (b : Codes) (st : State Tally) → Fairly st (begin_booked tallying p fresh n l b st))
      → IsKept (tallied_rules p fresh n) Fairly
  kept_by n begins = record {
    idle = λ st to path spawned extra there. grows_same st.extra to.extra extra;
    further = λ a b c g h. grows_further a.extra b.extra c.extra g h;
    stepped = λ l st. record {
      fair = λ f. record {
        here = omega (arith, f.here);
        ended = omega (arith, f.ended);
        begun = omega (arith, f.begun);
        small = f.small;
      };
      more = omega arith;
      small = omega arith;
    };
    begin = begins;
    finish = λ l st out g. record {
      fair = λ f.
          let inside : IsFair out.extra = g.fair (record {
            here = omega (arith, f.here);
            ended = omega arith;
            begun = omega (arith, f.begun);
            small = f.small;
          }) in
          record {
            here = max-le inside.here inside.ended;
            ended = omega (arith, f.ended, g.more);
            begun = inside.begun;
            small = inside.small;
          };
      more = omega (arith, g.more);
      small = g.small;
    };
  }

  begins_fairly : (n l : ℕ) (b : Codes) (st : State Tally) → Fairly st (begin_booked tallying p fresh n l b st)
  begins_fairly zero l b st = grows_same st.extra st.extra refl
  begins_fairly (suc n) l b st =
      let begun = child fresh (beginning_booked tallying p l st) in
      let out = run p (tallied_rules p fresh n) (Block b) begun in
      let g = run_keeps p (tallied_rules p fresh n) Fairly (kept_by n (begins_fairly n)) (Block b) begun in
      let last = once (out.extra.along - begun.extra.along) in
      record {
        fair = λ f.
            let inside : IsFair out.extra = g.fair (record {
              here = omega (arith, f.here);
              ended = omega (arith, f.ended);
              begun = omega (arith, f.begun);
              small = omega (arith, f.small);
            }) in
            record {
              here = omega (arith, f.here, g.more);
              ended = max-le inside.ended inside.here;
              begun = inside.begun;
              small = omega (arith, f.small, g.small, last);
            };
        more = omega (arith, g.more);
        small = omega (arith, g.small, last);
      }

-- so whole runs are fair
pub tally_is_fair : (p : Program) (input : List (List ℤ)) (b : Budget) → IsFair (tally_of p input b)
tally_is_fair p input b =
    let rules = tallied_rules p b.steps b.nest in
    let g = run_keeps p rules Fairly (kept_by p b.steps b.nest (begins_fairly p b.steps b.nest)) (Block p.main.body)
    (start nothing_done p b.steps (held_by input)) in
    g.fair (record { here = omega arith; ended = omega arith; begun = omega arith; small = omega arith })
