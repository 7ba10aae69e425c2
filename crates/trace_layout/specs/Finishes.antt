-- Finish scopes: when they are open.
use Rattle.std.specs.Prelude.{ℕ, zero, suc, ◌≡◌, ◌+◌, ◌<◌, ◌≤◌, List, [], length, Bool, true, false, Option}
use Rattle.std.specs.Prelude.{Some, None, count_by, nat_eq, slice_get, slice_index_or, option_and_then, take}
use Rattle.std.specs.Cmp.Lexicographic.{pointwise}
use Rattle.events.specs.declared.event.Event.{Event}
use Rattle.events.specs.declared.event.Event.TheVariants.{Open}
use Rattle.trace_layout.specs.declared.finishes.Finish.{Finish}
use Rattle.trace_layout.specs.declared.finishes.Finishes.{Finishes}

-- the task that opens a scope
abbrev pub opener : Event → Option (List ℕ)
opener (Open path) = Some path.turns.items
opener _ = None

abbrev pub is_opening : Event → Bool
is_opening (Open path) = true
is_opening _ = false

abbrev pub opener_at : List Event → ℕ → Option (List ℕ)
opener_at es n = option_and_then opener (slice_get es n)

-- whether this task opens a scope at an event
abbrev pub opens : (path : List ℕ) → Event → Bool
opens path (Open other) = pointwise nat_eq other.turns.items path
opens path _ = false

-- the root's scope, which is open from the first event on
pub record IsRoots (f : Finish) : Type 0 where
  pub owner : f.name.owner.turns.items ≡ []
  pub number : f.name.number ≡ 0
  pub first : f.first ≡ 0

-- a scope that its owner opened, numbered among its owner's scopes from 1
pub record IsOpened (es : List Event) (f : Finish) : Type 0 where
  pub owner : opener_at es f.first ≡ Some f.name.owner.turns.items
  pub number : f.name.number ≡ count_by (opens f.name.owner.turns.items) (take f.first es) + 1

-- the scope with this number is the root's, or its owner opened it
abbrev pub IsBegun : List Event → (k : ℕ) → Finish → Type 0
IsBegun es zero f = IsRoots f
IsBegun es (suc k) f = IsOpened es f

-- the scope with a number, of a list of events
pub record IsFinish (es : List Event) (k : ℕ) (f : Finish) : Type 0 where
  pub begins : IsBegun es k f
  pub forward : f.first ≤ f.last

-- after the root's, each scope is opened by a separate event, the earlier first
abbrev pub AreOpenedInOrder : List Finish → Type 0
AreOpenedInOrder fs = (i j : ℕ) (d : Finish) → 0 < i → i < j → j < length fs
    → (slice_index_or fs i d).first < (slice_index_or fs j d).first

-- all scopes of a list of events: the root's, and one for each that was opened
pub record AreFinishes (es : List Event) (r : Finishes) : Type 0 where
  pub each : (k : ℕ) (d : Finish) → k < length r.all.items → IsFinish es k (slice_index_or r.all.items k d)
  pub order : AreOpenedInOrder r.all.items
  pub count : length r.all.items ≡ count_by is_opening es + 1
