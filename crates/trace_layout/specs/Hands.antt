-- The tasks in the workers' hands after so many events.
use Rattle.std.specs.Prelude.{ℕ, ◌≡◌, ◌-◌, ◌<◌, ◌≤◌, List, length, take, Option, Some, None}
use Rattle.std.specs.Prelude.{All, count_by, slice_index_or}
use Rattle.std.specs.HashMap.{get}
use Rattle.events.specs.declared.event.Event.{Event}
use Rattle.types.specs.Translation.{is_path}
use Rattle.types.specs.declared.path.Path.{Path}
use Rattle.trace_layout.specs.Spells.{AreApart, AreInOrder, IsEnding, IsLatest, IsLeaving, IsOver}
use Rattle.trace_layout.specs.Spells.{is_taking, taken_at}
use Rattle.trace_layout.specs.declared.hands.Hands.{Hands}
use Rattle.trace_layout.specs.declared.spells.SpellEnd.{SpellEnd}
use Rattle.trace_layout.specs.declared.spells.SpellEnd.TheVariants.{Parked, Ended, Left, Going}
use Rattle.trace_layout.specs.declared.spells.Spell.{Spell}

-- after n events, a spell was ended by one of them, or continues to the last event of the list
abbrev pub IsEndingSoFar : List Event → (n last : ℕ) → Spell → SpellEnd → Type 0
IsEndingSoFar es n last s Parked = IsEnding es s Parked × (s.last < n)
IsEndingSoFar es n last s Ended = IsEnding es s Ended × (s.last < n)
IsEndingSoFar es n last s Left = IsEnding es s Left × (s.last < n)
IsEndingSoFar es n last s Going = s.last ≡ last

pub record IsSpellSoFar (es : List Event) (n last : ℕ) (s : Spell) : Type 0 where
  pub begins : taken_at es s.first ≡ Some (record { worker = s.worker; path = s.path.turns.items })
  pub ends : IsEndingSoFar es n last s s.ending
  pub forward : s.first ≤ s.last
  pub before : s.first < n
  pub within : s.last ≤ last

-- the spell with a number is a worker's
pub record IsOfWorker (ss : List Spell) (worker k : ℕ) : Type 0 where
  pub there : k < length ss
  pub same : (d : Spell) → (slice_index_or ss k d).worker ≡ worker

-- an open spell is in its worker's hand, which names each worker's latest
pub record AreSpellsSoFar (es : List Event) (n last : ℕ) (workers : List (Option ℕ))
    (ss : List Spell) : Type 0 where
  pub each : All (IsSpellSoFar es n last) ss
  pub order : AreInOrder ss
  pub apart : AreApart ss
  pub going : (k : ℕ) (d : Spell) → k < length ss → (slice_index_or ss k d).ending ≡ Going
      → slice_index_or workers (slice_index_or ss k d).worker None ≡ Some k
  pub held : (w k : ℕ) → slice_index_or workers w None ≡ Some k → IsOfWorker ss w k

-- the spell with a number is a task's latest
pub record IsOfTask (es : List Event) (n : ℕ) (ss : List Spell) (path : List ℕ) (k : ℕ) : Type 0 where
  pub there : k < length ss
  pub same : (d : Spell) → (slice_index_or ss k d).path.turns.items ≡ path
  pub latest : (d : Spell) → IsLatest es (slice_index_or ss k d) n

-- the spell with a number has passed no park or end of its task, and is found if it is the task's latest
pub record IsInTurn (es : List Event) (n : ℕ) (found : Path → Option ℕ) (k : ℕ) (s : Spell) : Type 0 where
  pub inside : (m : ℕ) (e : SpellEnd) → m < n → s.first ≤ m → IsLeaving es m s.path.turns.items e
      → IsLatest es s m → IsOver s m e
  pub latest : IsLeaving es s.last s.path.turns.items s.ending → IsLatest es s s.last
  pub named : (path : Path) → path.turns.items ≡ s.path.turns.items → IsLatest es s n → found path ≡ Some k

abbrev pub AreInTurn : List Event → (n : ℕ) → (found : Path → Option ℕ) → List Spell → Type 0
AreInTurn es n found ss = (k : ℕ) (d : Spell) → k < length ss → IsInTurn es n found k (slice_index_or ss k d)

pub record AreHands (es : List Event) (n : ℕ) (h : Hands) : Type 0 where
  pub last : h.last ≡ length es - 1
  pub hands : length h.workers ≡ 64
  pub spells : AreSpellsSoFar es n h.last h.workers h.spells.items
  pub tasks : (path : Path) (k : ℕ) → get is_path h.tasks path ≡ Some k
      → IsOfTask es n h.spells.items path.turns.items k
  pub turns : AreInTurn es n (get is_path h.tasks) h.spells.items
  pub count : length h.spells.items ≡ count_by is_taking (take n es)

-- a worker's hand is empty
pub record IsEmptyHand (es : List Event) (n worker : ℕ) (h : Hands) : Type 0 where
  pub hands : AreHands es n h
  pub past : All (λ s. s.worker ≡ worker → s.last < n) h.spells.items
