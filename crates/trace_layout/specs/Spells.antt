-- Spells: a task in a worker's hand.
use Rattle.std.specs.Prelude.{ℕ, ◌≡◌, ◌+◌, ◌<◌, ◌≤◌, ◌⊎◌, List, length, Bool, true, false, Option, Some, None}
use Rattle.std.specs.Prelude.{All, AllPairs, count_by, slice_get, option_and_then}
use Rattle.events.specs.declared.event.Event.{Event}
use Rattle.events.specs.declared.event.Event.TheVariants.{Take, Park, End, Resume}
use Rattle.trace_layout.specs.declared.spells.SpellEnd.{SpellEnd}
use Rattle.trace_layout.specs.declared.spells.SpellEnd.TheVariants.{Parked, Ended, Left, Going}
use Rattle.trace_layout.specs.declared.spells.Spell.{Spell}
use Rattle.trace_layout.specs.declared.spells.Spells.{Spells}

-- a task in a worker's hand
pub record Hold : Type 0 where
  pub worker : ℕ
  pub path : List ℕ

-- the task that is in a hand from this event on
abbrev pub taken : Event → Option Hold
taken (Take worker path) = Some (record { worker = worker; path = path.turns.items })
taken (Resume worker path faults) = Some (record { worker = worker; path = path.turns.items })
taken _ = None

abbrev pub is_taking : Event → Bool
is_taking (Take worker path) = true
is_taking (Resume worker path faults) = true
is_taking _ = false

-- the task that parks
abbrev pub parked : Event → Option (List ℕ)
parked (Park path) = Some path.turns.items
parked _ = None

-- the task that has finished
abbrev pub ended : Event → Option (List ℕ)
ended (End path) = Some path.turns.items
ended _ = None

-- the task taken by the event with a number
abbrev pub taken_at : List Event → ℕ → Option Hold
taken_at es n = option_and_then taken (slice_get es n)

abbrev pub parked_at : List Event → ℕ → Option (List ℕ)
parked_at es n = option_and_then parked (slice_get es n)

abbrev pub ended_at : List Event → ℕ → Option (List ℕ)
ended_at es n = option_and_then ended (slice_get es n)

-- the event at the end of a spell, or right after it
abbrev pub IsEnding : List Event → Spell → SpellEnd → Type 0
IsEnding es s Parked = parked_at es s.last ≡ Some s.path.turns.items
IsEnding es s Ended = ended_at es s.last ≡ Some s.path.turns.items
IsEnding es s Left = (next : Hold) × (taken_at es (s.last + 1) ≡ Some next) × (next.worker ≡ s.worker)
IsEnding es s Going = s.last + 1 ≡ length es

-- at the event with this number, a task leaves its worker's hand
abbrev pub IsLeaving : List Event → (n : ℕ) → (path : List ℕ) → SpellEnd → Type 0
IsLeaving es n path Parked = parked_at es n ≡ Some path
IsLeaving es n path Ended = ended_at es n ≡ Some path
IsLeaving es n path Left = ⊥
IsLeaving es n path Going = ⊥

-- no worker takes its task again between its first event and this one
abbrev pub IsLatest : List Event → Spell → (n : ℕ) → Type 0
IsLatest es s n = (m worker : ℕ) → s.first < m → m < n
    → taken_at es m ≡ Some (record { worker = worker; path = s.path.turns.items }) → ⊥

-- it is over before an event, or ends in this way at that event
abbrev pub IsOver : Spell → (n : ℕ) → SpellEnd → Type 0
IsOver s n e = (s.last < n) ⊎ ((s.last ≡ n) × (s.ending ≡ e))

-- a spell of a list of events
pub record IsSpell (es : List Event) (s : Spell) : Type 0 where
  -- it starts with the take or resume of its task by its worker
  pub begins : taken_at es s.first ≡ Some (record { worker = s.worker; path = s.path.turns.items })
  -- and ends as its field states
  pub ends : IsEnding es s s.ending
  pub forward : s.first ≤ s.last
  pub within : s.last < length es
  -- it doesn't go past the next park or end of its task, unless a worker takes the task again before that
  pub inside : (n : ℕ) (e : SpellEnd) → s.first ≤ n → IsLeaving es n s.path.turns.items e → IsLatest es s n
      → IsOver s n e
  -- nor does it end by a park or end that comes after such a take
  pub latest : IsLeaving es s.last s.path.turns.items s.ending → IsLatest es s s.last

-- the earlier one starts first
abbrev pub AreInOrder : List Spell → Type 0
AreInOrder = AllPairs (λ s t. s.first < t.first)

-- no two of one worker overlap
abbrev pub AreApart : List Spell → Type 0
AreApart = AllPairs (λ s t. s.worker ≡ t.worker → s.last < t.first)

-- all spells of a list of events
pub record AreSpells (es : List Event) (r : Spells) : Type 0 where
  pub each : All (IsSpell es) r.all.items
  pub order : AreInOrder r.all.items
  pub apart : AreApart r.all.items
  -- one for each take and each resume
  pub count : length r.all.items ≡ count_by is_taking es
  pub places : length r.places.items ≡ length es
