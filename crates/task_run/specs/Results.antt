-- The results of tasks, and how a child's result fills its hole.
use Rattle.std.specs.Prelude.{ℕ, List, [], ◌∷◌, ◌++◌, ℤ, Bool, false, ◌||◌, Option, Some, None}
use Rattle.sections.specs.Covers.{has}
use Rattle.sections.specs.Place.{Window}
use Rattle.types.specs.Contents.{Contents}
use Rattle.types.specs.Run.{Fault}
use Rattle.task_run.specs.Places.{Places, empty, only, over}

-- what a parent knows of a task that it spawned
pub record Listed : Type 0 where
  pub path : List ℕ
  -- the places that it may write, and that come back from it
  pub windows : List Window
  -- lines and faults of the parent since its previous child; the hole comes after them
  pub lines : List (List ℤ)
  pub faults : List Fault

-- what a task has at its end, or at the end of a finish; lines and faults are those since its last
-- child
pub record TaskResult : Type 0 where
  pub path : List ℕ
  -- it was over its budget
  pub stopped : Bool
  pub contents : Contents
  -- the places that it owns
  pub owned : Places
  pub lines : List (List ℤ)
  pub faults : List Fault
  pub children : List Listed

-- the settled result of a task, with all tasks that it lists
pub record Settled : Type 0 where
  -- the task or one of the tasks below it was over its budget
  pub stopped : Bool
  pub contents : Contents
  pub lines : List (List ℤ)
  pub faults : List Fault

-- the places that come back from listed tasks
abbrev pub returned : List Listed → Places
returned [] q = false
returned (c ∷ cs) q = has c.windows q || returned cs q

-- the start: no hole is filled yet
abbrev pub none_yet : Settled
none_yet = record { stopped = false; contents = empty; lines = []; faults = [] }

-- fills the next hole
abbrev pub fill : Listed → (child so_far : Settled) → Settled
fill c child so_far = record {
  stopped = so_far.stopped || child.stopped;
  contents = over (only (has c.windows) child.contents) so_far.contents;
  lines = (so_far.lines ++ c.lines) ++ child.lines;
  faults = (so_far.faults ++ c.faults) ++ child.faults;
}

-- adds the task's own result, once all its holes are filled
abbrev pub complete : TaskResult → (filled : Settled) → Settled
complete r filled = record {
  stopped = r.stopped || filled.stopped;
  contents = over filled.contents r.contents;
  lines = filled.lines ++ r.lines;
  faults = filled.faults ++ r.faults;
}

-- continues if there is a value
abbrev pub and_then : {A B : Type 0} → Option A → (A → Option B) → Option B
and_then None go = None
and_then (Some x) go = go x
