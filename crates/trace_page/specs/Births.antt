-- The tasks that events spawn.
use Rattle.std.specs.Prelude.{ℕ, ◌≡◌, ◌+◌, List, [], ◌∷◌, ◌++◌, map, Bool, false, true, count_by}
use Rattle.std.specs.Prelude.{drop, take, unwrap_or}
use Rattle.std.specs.HashMap.{get}
use Rattle.types.specs.Translation.{is_path}
use Rattle.types.specs.declared.path.Path.{Path}
use Rattle.events.specs.declared.event.Event.{Event}
use Rattle.events.specs.declared.event.Event.TheVariants.{Spawn}
use Rattle.event_worlds.specs.World.{child_path, same_path}
use Rattle.trace_page.specs.declared.births.Birth.{Birth}
use Rattle.trace_page.specs.declared.births.Births.{Births}

-- a task, and the number of the event that spawned it
pub record Born : Type 0 where
  pub at : ℕ
  pub child : List ℕ

abbrev pub is_spawn : Event → Bool
is_spawn (Spawn path) = true
is_spawn _ = false

-- whether this task spawns another
abbrev pub spawns : (path : List ℕ) → Event → Bool
spawns path (Spawn other) = same_path other.turns.items path
spawns path _ = false

-- the task that the event with a number spawns: its parent has spawned so many before
abbrev pub born : (es : List Event) → (n : ℕ) → Event → List Born
born es n (Spawn path) =
    let before = count_by (spawns path.turns.items) (take n es) in
    record { at = n; child = child_path path.turns.items (before + 1) } ∷ []
born es n _ = []

-- the tasks that events from one with a number on spawn
abbrev pub births_from : (es : List Event) → (n : ℕ) → (left : List Event) → List Born
births_from es n [] = []
births_from es n (e ∷ left) = born es n e ++ births_from es (n + 1) left

-- all tasks that events spawn, in order
abbrev pub births : List Event → List Born
births es = births_from es 0 es

-- the root, which is there from the first event on
abbrev pub root : Born
root = record { at = 0; child = [] }

-- ---- in Rust

abbrev pub birth : Birth → Born
birth b = record { at = b.at; child = b.child.turns.items }

-- the tasks that the first n events spawn, and how many each task has spawned
pub record AreBornSoFar (es : List Event) (n : ℕ) (found : Births) : Type 0 where
  pub all : map birth found.all.items ++ births_from es n (drop n es) ≡ births es
  pub spawned : (path : Path)
      → unwrap_or (get is_path found.spawned path) 0 ≡ count_by (spawns path.turns.items) (take n es)
