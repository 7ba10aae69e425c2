-- Rules that keep an account give no step back.
use Rattle.std.proofs.Common.{ℕ, zero, suc, ◌≤◌, le_refl}
use Rattle.types.specs.Code.{Codes, Program}
use Rattle.types.specs.Run.{State}
use Rattle.types.specs.Laws.{IsThrifty}
use Rattle.cost.specs.Books.{begin_booked}
use Rattle.cost.specs.Accounts.{Account, accounted_rules, accounting}

pub accounted_is_thrifty : (p : Program) (fresh nest : ℕ) → IsThrifty (accounted_rules p fresh nest)
accounted_is_thrifty p fresh nest = record {
  begin = begin_less nest;
  enter = λ l st. le_refl st.steps;
  leave = λ before out. le_refl out.steps;
}
  where
    begin_less : (n l : ℕ) (b : Codes) (st : State Account) → (begin_booked accounting p fresh n l b st).steps ≤ st.steps
    begin_less zero l b st = le_refl st.steps
    begin_less (suc n) l b st = le_refl st.steps
