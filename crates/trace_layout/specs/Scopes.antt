-- The scopes after so many events.
use Rattle.std.specs.Prelude.{ℕ, ◌≡◌, ◌+◌, ◌-◌, ◌<◌, ◌≤◌, ◌++◌, ◌∷◌, [], List, length, take, None, false}
use Rattle.std.specs.Prelude.{count_by, slice_index_or, unwrap_or}
use Rattle.std.specs.HashMap.{get}
use Rattle.events.specs.declared.event.Event.{Event}
use Rattle.types.specs.Translation.{is_path}
use Rattle.types.specs.declared.path.Path.{Path}
use Rattle.types.specs.declared.scope_id.ScopeId.{ScopeId}
use Rattle.trace_layout.specs.Finishes.{AreOpenedInOrder, IsFinish, is_opening, opens}
use Rattle.trace_layout.specs.declared.finishes.Finish.{Finish}
use Rattle.trace_layout.specs.declared.finishes.Scopes.{Scopes}

-- the scope with a number, after n events
pub record IsFinishSoFar (es : List Event) (n k : ℕ) (f : Finish) : Type 0 where
  pub is : IsFinish es k f
  pub before : f.first ≤ n
  pub opened : 0 < k → f.first < n

pub record AreScopes (es : List Event) (n : ℕ) (s : Scopes) : Type 0 where
  pub last : s.last ≡ length es - 1
  pub each : (k : ℕ) (d : Finish) → k < length s.all.items
      → IsFinishSoFar es n k (slice_index_or s.all.items k d)
  pub order : AreOpenedInOrder s.all.items
  pub count : length s.all.items ≡ count_by is_opening (take n es) + 1
  -- the number of scopes that each task has opened
  pub opened : (path : Path) → unwrap_or (get is_path s.opened path) 0
      ≡ count_by (opens path.turns.items) (take n es)

-- a scope with this name is added, starting at an event
pub record IsAdded (number : ℕ) (name : ScopeId) (old new : Scopes) : Type 0 where
  pub all : new.all.items ≡ old.all.items
      ++ record { name = name; first = number; last = old.last; is_passed = false; parked = None }
      ∷ []
  pub last : new.last ≡ old.last
  pub opened : new.opened ≡ old.opened
