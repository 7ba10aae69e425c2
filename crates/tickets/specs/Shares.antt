-- What the shares of a ticket word have drawn.
use Rattle.std.specs.Prelude.{◌≡◌, ℕ, ◌*◌, ◌≤◌, ◌==◌, nat_lt, if◌then◌else◌}
use Rattle.std.specs.Prelude.{List, length, slice_index, sum_by}
use mathlib.Core.Option.{some}
use lib.ListN.{get_elem?}
use Rattle.atomic_table.specs.Table.{State}
use Rattle.tickets.specs.declared.rule.SeatShare.{SeatShare}

-- a share of so many seats, with the numbers that were drawn on it
abbrev pub share : (seats : ℕ) → (drawn : List ℕ) → SeatShare
share seats drawn = record { seats = seats; drawn = drawn }

-- the number of times that x is in the list
abbrev pub times : ℕ → List ℕ → ℕ
times x = sum_by (λ y. if y == x then 1 else 0)

-- 1 if x is below n, and 0 otherwise
abbrev pub one_below : (x n : ℕ) → ℕ
one_below x n = if nat_lt x n then 1 else 0

-- a seat draws at most 2^32 times
abbrev pub IsWithinDraws : List SeatShare → Type 0
IsWithinDraws shares = (i : ℕ) (v : SeatShare) → get_elem? shares i ≡ some v
    → length v.drawn ≤ v.seats * 4294967296

-- the word is the number of draws: the shares list the numbers below it, each once
pub record DrawsOnce (seats : ℕ) (s : State (Unit {0}) SeatShare) : Type 0 where
  pub word : length s.words ≡ 1
  pub most : seats ≤ 64
  pub all : sum_by (λ v. v.seats) s.views ≡ seats
  pub count : sum_by (λ v. length v.drawn) s.views ≡ slice_index s.words 0
  pub once : (x : ℕ) → sum_by (λ v. times x v.drawn) s.views ≡ one_below x (slice_index s.words 0)
  pub within : IsWithinDraws s.views
