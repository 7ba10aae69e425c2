-- The kind of a task's next action, which is decided by its frames, its flow and its budget.
use Rattle.std.specs.Prelude.{ℕ, ◌≡◌, ◌≤◌, ◌<◌, ◌*◌, List, ◌∷◌, Bool, true, false, not, if◌then◌else◌}
use Rattle.std.specs.Prelude.{Some, None}
use Rattle.std.specs.HashMap.{get}
use Rattle.types.specs.Code.{Code, Do, If, While, Split, Parts, Begun, Call, Async, Finish, Rescue, Codes}
use Rattle.types.specs.Code.{End, Then}
use Rattle.types.specs.Run.{State}
use Rattle.types.specs.Value.{Environment}
use Rattle.sections.specs.Place.{Window, has_piece}
use Rattle.statement_steps.specs.Standing.{flow as flow_of}
use Rattle.statement_steps.specs.declared.flow.Flow.{Flow}
use Rattle.statement_steps.specs.declared.flow.Flow.TheVariants.{On, Faulted, Stopped}
use Rattle.task_run.specs.Frames.{Frame, Rest, Again, Further, AtEnd, OnFault, Back}
use Rattle.task_run.specs.OwnRun.{Own, Start, Action, Step, Spawn, EnterFinish, EndFinish, last_action}
use Rattle.task_run.specs.Standings.{Stacked}
use Rattle.task_run.specs.Stops.{is_none}
use Rattle.task_run.specs.declared.frame.TaskFrame.{TaskFrame as rFrame}
use Rattle.types.specs.Translation.{is_path}
use Rattle.types.specs.declared.path.Path.{Path}
use Rattle.task_run.specs.declared.job.Job.{Job}
use Rattle.event_worlds.specs.Courses.{Course, HasCome, IsDoing, IsNext}
use Rattle.event_worlds.specs.Shown.{is_scope, whereabouts}
use Rattle.event_worlds.specs.World.{hand_of}
use Rattle.event_worlds.specs.declared.doing.TaskProgress.{TaskProgress}
use Rattle.event_worlds.specs.declared.next.First.{First}
use Rattle.event_worlds.specs.declared.next.First.TheVariants.{Acts, Goes}
use Rattle.event_worlds.specs.declared.next.NextKind.{NextKind}
use Rattle.event_worlds.specs.declared.next.NextKind.TheVariants.{Step as ToStep, Spawn as ToSpawn}
use Rattle.event_worlds.specs.declared.next.NextKind.TheVariants.{Open as ToOpen, Finish as ToFinish}
use Rattle.event_worlds.specs.declared.next.NextKind.TheVariants.{End as ToEnd}
use Rattle.event_worlds.specs.declared.scope.WorldScope.{WorldScope}
use Rattle.event_worlds.specs.declared.task.WorldStake.{WorldStake}
use Rattle.event_worlds.specs.declared.task.WorldTask.{WorldTask}
use Rattle.event_worlds.specs.declared.world.World.{World}

-- an action of a task with this path is of this kind
abbrev pub IsOfKind : (path : List ℕ) → NextKind → Action → Type 0
IsOfKind path ToStep a = a ≡ Step
IsOfKind path ToSpawn a = (s : Start) × (a ≡ Spawn s)
IsOfKind path ToOpen a = a ≡ EnterFinish
IsOfKind path ToFinish a = a ≡ EndFinish
IsOfKind path ToEnd a = a ≡ last_action path

module _ (j : Job) where
  -- the next action of a task is of this kind
  pub record HasNext (c : Course) (kind : NextKind) : Type 0 where
    pub action : Action
    pub next : IsNext j c action
    pub of : IsOfKind c.start.path kind action

  -- the next action of each task that is represented is of this kind
  abbrev pub IsNextKind : TaskProgress → NextKind → Type 0
  IsNextKind doing kind = (c : Course) → IsDoing j c doing → HasNext c kind

-- a task in a hand is about to take a step
pub record StepsInHand (j : Job) (k : WorldTask) : Type 0 where
  pub worker : ℕ
  pub hand : hand_of (whereabouts k.place) ≡ Some worker
  pub next : IsNextKind j k.doing ToStep

-- a flow isn't stopped
abbrev pub NotStopped : Flow → Type 0
NotStopped On = Unit {0}
NotStopped Faulted = Unit {0}
NotStopped Stopped = ⊥

-- a task has reached these frames, the last one on top, with the windows of this environment, this
-- flow and, unless it is stopped, this number of steps
pub record IsLeft (j : Job) (c : Course) (frames : List rFrame) (env : Environment) (now : Flow)
    (budget : ℕ) : Type 0 where
  pub left : List (Frame Own)
  pub state : State Own
  pub stacked : Stacked frames left
  pub windows : state.environment.windows ≡ env.windows
  pub flow : state.flow ≡ flow_of now
  pub steps : NotStopped now → state.steps ≡ budget
  pub come : HasCome j c (record { frames = left; state = state })

-- ---- tests
abbrev pub is_step : NextKind → Bool
is_step ToStep = true
is_step _ = false

abbrev pub is_spawn : NextKind → Bool
is_spawn ToSpawn = true
is_spawn _ = false

abbrev pub is_open : NextKind → Bool
is_open ToOpen = true
is_open _ = false

-- at the end of a finish; the root's own end counts as one
abbrev pub waits_by : (root : Bool) → NextKind → Bool
waits_by root ToFinish = true
waits_by root ToEnd = root
waits_by root _ = false

-- at the end of a task other than the root
abbrev pub ends_by : (root : Bool) → NextKind → Bool
ends_by root ToEnd = not root
ends_by root _ = false

-- ---- the tables
module _ (r : World) (path : Path) where
  -- no task with this path is in a hand
  abbrev pub IsNowhere : Type 0
  IsNowhere = (k : WorldTask) → get is_path r.tasks path ≡ Some k → hand_of (whereabouts k.place) ≡ None

  -- a task with this path is in a hand, and its next action is of this kind
  pub record IsNextAt (kind : NextKind) : Type 0 where
    pub task : WorldTask
    pub at : get is_path r.tasks path ≡ Some task
    pub worker : ℕ
    pub hand : hand_of (whereabouts task.place) ≡ Some worker
    pub next : IsNextKind r.job.job task.doing kind

  -- a task has at least weight 2 in its innermost scope
  pub record HasHalf : Type 0 where
    pub task : WorldTask
    pub at : get is_path r.tasks path ≡ Some task
    pub inner : WorldStake
    pub outer : List WorldStake
    pub stakes : task.stakes.items ≡ inner ∷ outer
    pub two : 2 ≤ inner.weight

  -- a task has weight 1 in its innermost scope, which may issue w0 more
  pub record NeedsMore : Type 0 where
    pub task : WorldTask
    pub at : get is_path r.tasks path ≡ Some task
    pub inner : WorldStake
    pub outer : List WorldStake
    pub stakes : task.stakes.items ≡ inner ∷ outer
    pub one : inner.weight ≡ 1
    pub book : WorldScope
    pub found : get is_scope r.scopes inner.scope ≡ Some book
    pub few : book.issued < 2147483648 * r.job.w0

-- ---- what the top frame does, by the flow and the budget
-- the kind of a statement's action
abbrev pub kind_by : Code → NextKind
kind_by (Async b) = ToSpawn
kind_by (Finish b) = ToOpen
kind_by (Rescue b x c) = ToOpen
kind_by (Do s) = ToStep
kind_by (If t b c) = ToStep
kind_by (While t b) = ToStep
kind_by (Split s e x y b) = ToStep
kind_by (Parts s e q i b) = ToStep
kind_by (Begun s n k q i b) = ToStep
kind_by (Call f es ss) = ToStep

-- an action of this kind, if a step is left: an async needs a nesting level too
abbrev pub does_nested : (nest : ℕ) → NextKind → First
does_nested nest ToSpawn = if is_none nest then Goes Stopped else Acts ToSpawn
does_nested nest ToStep = Acts ToStep
does_nested nest ToOpen = Acts ToOpen
does_nested nest ToFinish = Acts ToFinish
does_nested nest ToEnd = Acts ToEnd

-- an action of this kind, if the flow is on
abbrev pub does : (nest steps : ℕ) → Flow → NextKind → First
does nest steps On kind = if is_none steps then Goes Stopped else does_nested nest kind
does nest steps Faulted kind = Goes Faulted
does nest steps Stopped kind = Goes Stopped

-- the first statement of a block
abbrev pub block_does : (nest steps : ℕ) → Flow → Codes → First
block_does nest steps flow End = Goes flow
block_does nest steps flow (Then l s rest) = does nest steps flow (kind_by s)

-- the handler of a finish, which is next if the task has faulted
abbrev pub handler_does : (nest steps : ℕ) → Flow → Codes → First
handler_does nest steps On b = Goes On
handler_does nest steps Faulted b = block_does nest steps On b
handler_does nest steps Stopped b = Goes Stopped

-- the top frame, where sections have these windows; a `parts` without a turn left does nothing
abbrev pub top_does : (nest steps : ℕ) → Flow → (windows : ℕ → Window) → Frame Own → First
top_does nest steps flow w (Rest b) = block_does nest steps flow b
top_does nest steps flow w (Again l t b) = does nest steps flow ToStep
top_does nest steps flow w (Further l s n k q i b) =
    if has_piece (w s) n k then does nest steps flow ToStep else Goes flow
top_does nest steps flow w (AtEnd before) = Acts ToFinish
top_does nest steps flow w (OnFault before x b) = handler_does nest steps flow b
top_does nest steps flow w (Back env) = Goes flow

-- the environment after a frame that does nothing, except for scalars
abbrev pub after_frame : Frame Own → Environment → Environment
after_frame (Back env) e = env
after_frame (Rest b) e = e
after_frame (Again l t b) e = e
after_frame (Further l s n k q i b) e = e
after_frame (AtEnd before) e = e
after_frame (OnFault before x b) e = e
