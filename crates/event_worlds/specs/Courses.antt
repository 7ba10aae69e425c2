-- The progress of a live task in its own run, and what a run in Rust represents at this point.
use Rattle.std.specs.Prelude.{ℕ, ◌+◌, ◌≡◌, ◌≤◌, List, [], ◌∷◌, length, Option, Some, None}
use Rattle.types.specs.Run.{State}
use Rattle.types.specs.Translation.{program}
use Rattle.effects.specs.Rounds.{needs_of}
use Rattle.task_run.specs.Frames.{Frame, AtEnd, Standing, Follows}
use Rattle.task_run.specs.MayRun.{MayStart}
use Rattle.task_run.specs.OwnRun.{Start, Action, Step, Spawn, EnterFinish, EndFinish, Own}
use Rattle.task_run.specs.OwnRun.{last_action, next_action, result_of}
use Rattle.task_run.specs.Results.{TaskResult}
use Rattle.task_run.specs.Runs.{root, MayStand}
use Rattle.task_run.specs.RunTurns.{Waits}
use Rattle.task_run.specs.Standings.{Shows, state_of, with_own}
use Rattle.task_run.specs.Translation.{start, task_result}
use Rattle.task_run.specs.declared.result.TaskResult.{TaskResult as rTaskResult}
use Rattle.task_run.specs.declared.run.Run.{Run}
use Rattle.task_run.specs.declared.start.Start.{Start as rStart}
use Rattle.task_run.specs.declared.turn.Paused.{Paused}
use Rattle.task_run.specs.Jobs.{program_of, lists_of, budget_of}
use Rattle.task_run.specs.declared.job.Job.{Job}
use Rattle.event_worlds.specs.World.{Live, child_path}
use Rattle.event_worlds.specs.declared.doing.TaskProgress.{TaskProgress}
use Rattle.event_worlds.specs.declared.doing.TaskProgress.TheVariants.{Starts, Runs, Steps}
use Rattle.event_worlds.specs.declared.doing.TaskProgress.TheVariants.{Spawns as rSpawns, Opens}
use Rattle.event_worlds.specs.declared.doing.TaskProgress.TheVariants.{AtFinish, AtEnd as rAtEnd}

-- the start of a live task, the receipts that it has continued with, and the number of its actions
pub record Course : Type 0 where
  pub start : Start
  pub receipts : List (List TaskResult)
  pub done : ℕ
  pub spawned : ℕ
  pub opened : ℕ

abbrev pub course_of : Live → Course
course_of t = record {
  start = t.start;
  receipts = t.receipts;
  done = t.done;
  spawned = t.spawned;
  opened = t.opened;
}

-- with one action more
abbrev pub further : Course → Course
further c = record c { done = c.done + 1 }

-- after the action that spawns a task
abbrev pub with_child : Course → Course
with_child c = record (further c) { spawned = c.spawned + 1 }

-- after the action that starts a finish
abbrev pub with_finish : Course → Course
with_finish c = record (further c) { opened = c.opened + 1 }

-- the next action is known
abbrev pub IsKnown : TaskProgress → Type 0
IsKnown (Starts s) = ⊥
IsKnown (Runs r) = ⊥
IsKnown (Steps r) = Unit {0}
IsKnown (rSpawns r s) = Unit {0}
IsKnown (Opens r) = Unit {0}
IsKnown (AtFinish q made) = Unit {0}
IsKnown (rAtEnd made) = Unit {0}

-- at the end of a finish, or at its own end
abbrev pub IsAtAnEnd : TaskProgress → Type 0
IsAtAnEnd (Starts s) = ⊥
IsAtAnEnd (Runs r) = ⊥
IsAtAnEnd (Steps r) = ⊥
IsAtAnEnd (rSpawns r s) = ⊥
IsAtAnEnd (Opens r) = ⊥
IsAtAnEnd (AtFinish q made) = Unit {0}
IsAtAnEnd (rAtEnd made) = Unit {0}

-- what a task has made that is at such an end
abbrev pub made_at : TaskProgress → Option rTaskResult
made_at (Starts s) = None
made_at (Runs r) = None
made_at (Steps r) = None
made_at (rSpawns r s) = None
made_at (Opens r) = None
made_at (AtFinish q made) = Some made
made_at (rAtEnd made) = Some made

-- the run of a task in a hand, after its next action
abbrev pub behind : TaskProgress → TaskProgress
behind (Starts s) = Starts s
behind (Runs r) = Runs r
behind (Steps r) = Runs r
behind (rSpawns r s) = Runs r
behind (Opens r) = Runs r
behind (AtFinish q made) = AtFinish q made
behind (rAtEnd made) = rAtEnd made

-- the start of the task that this action spawns
abbrev pub begun_by : TaskProgress → Option rStart
begun_by (Starts s) = None
begun_by (Runs r) = None
begun_by (Steps r) = None
begun_by (rSpawns r s) = Some s
begun_by (Opens r) = None
begun_by (AtFinish q made) = None
begun_by (rAtEnd made) = None

module _ (j : Job) where
  -- the next action
  abbrev pub IsNext : Course → Action → Type 0
  IsNext c a =
      next_action (program_of j) (needs_of (program_of j)) (budget_of j).steps c.receipts c.done c.start
      ≡ Some a

  -- a task has reached this configuration; each finish that it started has cost a step
  pub record HasCome (c : Course) (u : Standing Own) : Type 0 where
    pub stands : MayStand (program_of j) (lists_of j) (budget_of j) c.start u
    pub follows : Follows (program_of j) (needs_of (program_of j)) (budget_of j).steps
        (root (program_of j) (lists_of j) (budget_of j)) c.start c.receipts u
    pub after : length u.state.extra.actions ≡ c.done
    pub children : u.state.spawned ≡ c.spawned
    pub few : c.opened + u.state.steps ≤ (budget_of j).steps

  -- a task hasn't started yet
  pub record IsFresh (c : Course) (s : rStart) : Type 0 where
    pub is : start s ≡ c.start
    pub may : MayStart (program_of j) (lists_of j) (budget_of j) c.start
    pub receipts : c.receipts ≡ []
    pub done : c.done ≡ 0
    pub spawned : c.spawned ≡ 0
    pub opened : c.opened ≡ 0

  -- a run represents this progress
  pub record IsRunOf (c : Course) (r : Run) : Type 0 where
    pub program : program r.plan.program.now ≡ program_of j
    pub nest : r.thread.nest ≡ c.start.nest
    pub frames : List (Frame Own)
    pub own : Own
    pub shows : Shows r frames own
    pub come : HasCome c (record { frames = frames; state = with_own own (state_of r.thread) })

  -- a run waits with this progress at the end of a finish, with `so_far` as its result
  pub record IsPausedOf (c : Course) (q : Paused) (so_far : rTaskResult) : Type 0 where
    pub program : program q.plan.program.now ≡ program_of j
    pub nest : q.nest ≡ c.start.nest
    pub frames : List (Frame Own)
    pub before : State Own
    pub state : State Own
    pub waits : Waits q frames before state
    pub come : HasCome c (record { frames = AtEnd before ∷ frames; state = state })
    pub made : task_result so_far ≡ result_of state

  -- a task is at its end with this result
  pub record IsEndOf (c : Course) (made : rTaskResult) : Type 0 where
    pub state : State Own
    pub come : HasCome c (record { frames = []; state = state })
    pub is : task_result made ≡ result_of state

  -- the next action of a live task
  abbrev pub IsDoing : Course → TaskProgress → Type 0
  IsDoing c (Starts s) = IsFresh c s
  IsDoing c (Runs r) = IsRunOf c r
  IsDoing c (Steps r) = IsNext c Step × IsRunOf (further c) r
  IsDoing c (rSpawns r s) =
      IsNext c (Spawn (start s)) × IsRunOf (with_child c) r
      × MayStart (program_of j) (lists_of j) (budget_of j) (start s)
      × (s.path.turns.items ≡ child_path c.start.path (c.spawned + 1))
  IsDoing c (Opens r) = IsNext c EnterFinish × IsRunOf (with_finish c) r
  IsDoing c (AtFinish q made) = IsNext c EndFinish × IsPausedOf c q made
  IsDoing c (rAtEnd made) = IsNext c (last_action c.start.path) × IsEndOf c made

  -- a version of the same task whose next action is known
  pub record IsLooked (old new : TaskProgress) : Type 0 where
    pub known : IsKnown new
    pub same : (c : Course) → IsDoing c old → IsDoing c new

  -- its next action isn't a step
  abbrev pub IsNotToStep : TaskProgress → Type 0
  IsNotToStep d = (c : Course) → IsDoing c d → IsNext c Step → ⊥
