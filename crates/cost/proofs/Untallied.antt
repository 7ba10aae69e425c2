-- A run that keeps a tally is the run that keeps none, except for the tally.
use Rattle.std.proofs.Common.{◌≡◌, ℕ, refl, sym, ap}
use Rattle.types.specs.Code.{Program}
use Rattle.types.specs.Meaning.{after_body, child, one, one_rules}
use Rattle.types.specs.Run.{State, Rules, Work, Block}
use Rattle.cost.specs.declared.tally.Tally.{Tally}
use Rattle.cost.specs.Books.{beginning_booked, booked_rules}
use Rattle.cost.specs.Costs.{tallied, tallying}
use Rattle.cost.specs.Laws.{untallied}
use Rattle.cost.proofs.Seen.{nested-seen}

abbrev none : Tally → Unit {0}
none t = tt

-- the rules of one thread, with a tally
abbrev pub tallied_rules : Program → (fresh nest : ℕ) → Rules Tally
tallied_rules p = booked_rules tallying p

module _ (p : Program) (fresh : ℕ) where
  -- a tally changes nothing
  pub untallied-tallied : (nest : ℕ) (w : Work) (st : State Tally)
      → untallied (tallied p fresh nest w st) ≡ one p fresh nest w (untallied st)
  untallied-tallied nest w st = sym (nested-seen none p (tallied_rules p fresh) (one_rules p fresh)
      (λ n begins. record { stepped = λ l x. refl; begin = begins; enter = λ l st. refl; leave = λ before out. refl }) (λ l b st. refl)
      (λ n runs l b st. ap (after_body (untallied st)) (runs (Block b) (child fresh (beginning_booked tallying p l st)))) nest w st)
