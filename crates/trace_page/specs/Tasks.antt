-- Tasks by numbers: the root is 0, and the k-th task that is spawned is k, from 1.
use Rattle.std.specs.Prelude.{ℕ, ◌≡◌, ◌+◌, ◌-◌, List, [], ◌∷◌, length, map, max, Bool, false, nat_eq}
use Rattle.std.specs.Prelude.{Option, None, Some, if◌then◌else◌}
use Rattle.serde_json.specs.Data.{Data}
use Rattle.events.specs.Events.{Event, Take, Steal, Steps, Replenish, Spawns, Opens, Parks}
use Rattle.events.specs.Events.{Ends, Pass, Resume, event as event_of}
use Rattle.events.specs.declared.event.Event.{Event as rEvent}
use Rattle.event_worlds.specs.World.{same_path}
use Rattle.trace_layout.specs.Rows.{rows_of}
use Rattle.trace_layout.specs.declared.stretch.Stretch.{Stretch}
use Rattle.trace_page.specs.Births.{Born, root}
use Rattle.trace_page.specs.Pieces.{list_by, natural}

-- ---- numbers

-- the number of the last of some tasks that has a path, if the first of them has this number; or else
-- `known`
abbrev pub number_from : (path : List ℕ) → (first known : ℕ) → List Born → ℕ
number_from path first known [] = known
number_from path first known (b ∷ bs) =
    number_from path (first + 1) (if same_path b.child path then first else known) bs

-- the number of the task with a path
abbrev pub number_of : List Born → (path : List ℕ) → ℕ
number_of bs path = number_from path 1 0 bs

-- the task of an event, or the owner of the scope that passes
abbrev pub task_of : Event → List ℕ
task_of (Take worker path) = path
task_of (Steal worker from path) = path
task_of (Steps path) = path
task_of (Replenish path) = path
task_of (Spawns path) = path
task_of (Opens path) = path
task_of (Parks path) = path
task_of (Ends path) = path
task_of (Pass scope) = scope.owner
task_of (Resume worker path faults) = path

-- the number of the task of each event
abbrev pub tasks_json : List Born → List rEvent → Data
tasks_json bs = list_by (λ e. natural (number_of bs (task_of (event_of e))))

-- ---- ends

-- the task that an event ends; the root has ended when its scope passes
abbrev pub ended : Event → Option (List ℕ)
ended (Ends path) = Some path
ended (Pass scope) = if nat_eq scope.number 0 then Some scope.owner else None
ended _ = None

abbrev pub is_path_of : (path : List ℕ) → Option (List ℕ) → Bool
is_path_of path None = false
is_path_of path (Some other) = same_path other path

-- the number of the last of some events that ends a task, if the first of them has this number; or else
-- `known`
abbrev pub end_from : (path : List ℕ) → (first known : ℕ) → List rEvent → ℕ
end_from path first known [] = known
end_from path first known (e ∷ es) =
    end_from path (first + 1) (if is_path_of path (ended (event_of e)) then first else known) es

-- the event that ends a task, or the last event
abbrev pub end_in : List rEvent → (path : List ℕ) → ℕ
end_in es path = end_from path 0 (length es - 1) es

-- ---- rows

-- a task's last event, which isn't before its spawn
abbrev pub last_of : List rEvent → Born → ℕ
last_of es b = max b.at (end_in es b.child)

-- the rows of the stretches of the root and of all tasks, each from its spawn to its end
pub record AreTaskRows (bs : List Born) (es : List rEvent) (d : Data) : Type 0 where
  pub stretches : List Stretch
  pub firsts : map (λ (s : Stretch). s.first) stretches ≡ map (λ (b : Born). b.at) (root ∷ bs)
  pub lasts : map (λ (s : Stretch). s.last) stretches ≡ map (last_of es) (root ∷ bs)
  pub rows : d ≡ list_by natural (rows_of stretches)
