-- A run that keeps an account is the run that keeps its tally, except for the tables by label.
use Rattle.std.proofs.Common.{◌≡◌, ℕ, refl, sym, ap}
use Rattle.std.specs.Prelude.{List, ℤ}
use Rattle.types.specs.Code.{Program}
use Rattle.types.specs.Contents.{held_by}
use Rattle.types.specs.Meaning.{child}
use Rattle.types.specs.Outcome.{Budget, start}
use Rattle.types.specs.Run.{State, Work, Block}
use Rattle.cost.specs.declared.tally.Tally.{Tally}
use Rattle.cost.specs.Books.{after_booked, beginning_booked}
use Rattle.cost.specs.Accounts.{Account, account_of, accounted, accounted_rules, accounting, nothing_noted}
use Rattle.cost.specs.Costs.{tallied, tally_of, tallying}
use Rattle.cost.specs.Laws.{totals}
use Rattle.cost.proofs.Seen.{nested-seen}
use Rattle.cost.proofs.Untallied.{tallied_rules}

abbrev tally : Account → Tally
tally a = a.tally

module _ (p : Program) (fresh : ℕ) where
  -- an account changes no tally
  pub totals-accounted : (nest : ℕ) (w : Work) (st : State Account)
      → totals (accounted p fresh nest w st) ≡ tallied p fresh nest w (totals st)
  totals-accounted nest w st = sym (nested-seen tally p (accounted_rules p fresh) (tallied_rules p fresh)
      (λ n begins. record { stepped = λ l x. refl; begin = begins; enter = λ l st. refl; leave = λ before out. refl }) (λ l b st. refl)
      (λ n runs l b st. ap (after_booked tallying (beginning_booked tallying p l (totals st)))
      (runs (Block b) (child fresh (beginning_booked accounting p l st)))) nest w st)

-- an account doesn't change the tally of a whole run
pub tally-account_of : (p : Program) (rows : ℕ) (input : List (List ℤ)) (b : Budget)
    → (account_of p rows input b).tally ≡ tally_of p input b
tally-account_of p rows input b =
    ap (λ (st : State Tally). st.extra)
    (totals-accounted p b.steps b.nest (Block p.main.body) (start (nothing_noted rows) p b.steps (held_by input)))
