-- The number of tasks in hands.
use Rattle.std.specs.Prelude.{ℕ, ◌≡◌, ◌<◌, List, length, Bool, ◌&&◌, nat_le, count_by, slice_index}
use Rattle.trace_layout.specs.declared.spells.Spell.{Spell}

-- whether an event is in a spell
abbrev pub covers : ℕ → Spell → Bool
covers n s = nat_le s.first n && nat_le n s.last

-- for each of this many events, the number of spells that contain it
pub record AreInHands (spells : List Spell) (events : ℕ) (counts : List ℕ) : Type 0 where
  pub each : (n : ℕ) → n < events → slice_index counts n ≡ count_by (covers n) spells
  pub many : length counts ≡ events
