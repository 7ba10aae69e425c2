-- The tasks spawned in a scope and those that have ended, read from the events alone.
use Rattle.std.specs.Prelude.{ℕ, ◌+◌, ◌≡◌, List, [], ◌∷◌, ◌++◌, drop, Contains, if◌then◌else◌}
use Rattle.event_worlds.specs.World.{ScopeId, same_path, child_path}
use Rattle.event_worlds.specs.Events.{Event, Take, Steal, Steps, Replenish, Spawns, Opens, Parks, Ends, Pass}
use Rattle.event_worlds.specs.Events.{Resume}

-- what events record of a task
pub record Told : Type 0 where
  pub spawned : ℕ
  pub opened : ℕ
  -- the numbers of the scopes that it has opened and not left, the innermost first
  pub inside : List ℕ

-- the record without events; the root's outer finish is there from the start
abbrev pub untold : List ℕ → Told
untold [] = record { spawned = 0; opened = 0; inside = 0 ∷ [] }
untold (k ∷ path) = record { spawned = 0; opened = 0; inside = [] }

-- one more child
abbrev pub spawned_more : Told → Told
spawned_more t = record t { spawned = t.spawned + 1 }

-- one more finish, which is the innermost now
abbrev pub opened_more : Told → Told
opened_more t = record t { opened = t.opened + 1; inside = (t.opened + 1) ∷ t.inside }

-- the innermost finish is left
abbrev pub left_one : Told → Told
left_one t = record t { inside = drop 1 t.inside }

-- how an event changes the record of a path
abbrev pub tell : List ℕ → Event → Told → Told
tell path (Spawns q) t = if same_path q path then spawned_more t else t
tell path (Opens q) t = if same_path q path then opened_more t else t
tell path (Resume w q faults) t = if same_path q path then left_one t else t
tell path (Take w q) t = t
tell path (Steal w f q) t = t
tell path (Steps q) t = t
tell path (Replenish q) t = t
tell path (Parks q) t = t
tell path (Ends q) t = t
tell path (Pass id) t = t

-- how several events change it
abbrev pub tell_all : List ℕ → List Event → Told → Told
tell_all path [] t = t
tell_all path (e ∷ es) t = tell_all path es (tell path e t)

-- the record of the task with this path
abbrev pub told : List Event → List ℕ → Told
told es path = tell_all path es (untold path)

-- after the events `before` the task with this path spawns this child
pub record SpawnsAt (es before : List Event) (path child : List ℕ) : Type 0 where
  pub later : List Event
  pub here : es ≡ before ++ Spawns path ∷ later
  pub numbered : child ≡ child_path path ((told before path).spawned + 1)

-- the members of a scope: every child that its owner spawns while it is open, and every child of a
-- member
pub data Begun (es : List Event) (id : ScopeId) : List ℕ → Type 0 where
  by_owner : {before : List Event} {child : List ℕ} → SpawnsAt es before id.owner child
      → Contains (told before id.owner).inside id.number → Begun es id child
  by_member : {before : List Event} {path child : List ℕ} → Begun es id path
      → SpawnsAt es before path child → Begun es id child

-- the members that have ended
pub record Ended (es : List Event) (id : ScopeId) (path : List ℕ) : Type 0 where
  pub begun : Begun es id path
  pub ends : Contains es (Ends path)

-- a task was spawned directly in a scope: this is the innermost scope of its parent
pub data BegunIn (es : List Event) (id : ScopeId) : List ℕ → Type 0 where
  in_own : {before : List Event} {child : List ℕ} {low : List ℕ} → SpawnsAt es before id.owner child
      → (told before id.owner).inside ≡ id.number ∷ low → BegunIn es id child
  handed_on : {before : List Event} {path child : List ℕ} → SpawnsAt es before path child
      → (told before path).inside ≡ [] → BegunIn es id path → BegunIn es id child
