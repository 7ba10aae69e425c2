-- Facts about tallies and accounts, for every program.
use Rattle.std.specs.List.{sum}
use Rattle.std.specs.Prelude.{◌+◌, ◌≡◌, ◌<◌, ◌≤◌}
use Rattle.types.specs.Run.{State, keeping}
use Rattle.cost.specs.declared.tally.Tally.{Tally}
use Rattle.cost.specs.Accounts.{Account}

-- a state without its tally
abbrev pub untallied : State Tally → State (Unit {0})
untallied = keeping tt

-- a state with only the tally of its account
abbrev pub totals : State Account → State Tally
totals st = keeping st.extra.tally st

-- no chain is longer than all that was done; each task except the root, and each finish except the
-- one around `main`, took its own step; the root isn't among the small tasks that have ended
pub record IsFair (t : Tally) : Type 0 where
  pub here : t.here ≤ t.work
  pub ended : t.ended ≤ t.work
  pub begun : t.tasks + t.finishes ≤ t.work + 2
  pub small : t.small < t.tasks

-- each step has its row: the rows of all steps add up to the work, and the rows of the chains to
-- the lengths of the chains
pub record AddsUp (a : Account) : Type 0 where
  pub work : sum a.work ≡ a.tally.work
  pub here : sum a.here ≡ a.tally.here
  pub ended : sum a.ended ≡ a.tally.ended
