-- The tasks in progress that a run in Rust represents.
use Rattle.std.specs.Prelude.{◌+◌, ◌≡◌, ◌≤◌, List, [], ◌∷◌, ◌++◌, map}
use Rattle.types.specs.Run.{State}
use Rattle.types.specs.Translation.{codes, truth, environment, fault}
use Rattle.plain_code.specs.Means.{beside}
use Rattle.statement_steps.specs.Standing.{state_by}
use Rattle.statement_steps.specs.declared.thread.Thread.{Thread}
use Rattle.statement_steps.specs.declared.turns.TurnsToCome.{TurnsToCome}
use Rattle.task_run.specs.OwnRun.{Own}
use Rattle.task_run.specs.Frames.{Frame, Rest, Again, Further, AtEnd, OnFault, Back, Standing}
use Rattle.task_run.specs.Translation.{contents_of, owned_by, listed}
use Rattle.task_run.specs.declared.frame.TaskFrame.{TaskFrame as rFrame}
use Rattle.task_run.specs.declared.frame.Outer.{Outer}
use Rattle.task_run.specs.declared.frame.TaskFrame.TheVariants.{Rest as rRest, Again as rAgain}
use Rattle.task_run.specs.declared.frame.TaskFrame.TheVariants.{Turns as rTurns, EndFinish as rEndFinish}
use Rattle.task_run.specs.declared.frame.TaskFrame.TheVariants.{OnFault as rOnFault, EndCall as rEndCall}
use Rattle.task_run.specs.declared.memory.TaskMemory.{TaskMemory}
use Rattle.task_run.specs.declared.run.Run.{Run}

-- a state, with what an own run keeps in addition
abbrev pub with_own : Own → State (Unit {0}) → State Own
with_own = beside

-- the state of the task's statements
abbrev pub state_of : Thread TaskMemory → State (Unit {0})
state_of t = state_by (λ m. contents_of m.holdings) t

-- the end of a finish, with the lines, faults and listed tasks from before it
pub record IsEnd (o : Outer) (before : State Own) : Type 0 where
  pub lines : before.lines ≡ map (λ v. v.items) o.lines.items
  pub faults : before.faults ≡ map fault o.faults.items
  pub pending : map (λ c. c.listed) before.extra.pending ≡ map listed o.pending.items

-- the turns of a `parts` that are still to come
abbrev pub further : TurnsToCome → Frame Own
further t = Further t.label t.section.number t.size t.next t.piece.number t.turn.number (codes t.body.now)

-- a frame in Rust represents this frame
abbrev pub ShowsFrame : rFrame → Frame Own → Type 0
ShowsFrame (rRest b) f = f ≡ Rest (codes b.now)
ShowsFrame (rAgain l t b) f = f ≡ Again l (truth t.now) (codes b.now)
ShowsFrame (rTurns t) f = f ≡ further t
ShowsFrame (rEndFinish o) f = (before : State Own) × (f ≡ AtEnd before) × IsEnd o before
ShowsFrame (rOnFault before x b) f = f ≡ OnFault (map fault before.items) x.number (codes b.now)
ShowsFrame (rEndCall env) f = f ≡ Back (environment env)

-- frames in Rust, the last one on top, represent these frames, the first one on top
abbrev pub Stacked : List rFrame → List (Frame Own) → Type 0
Stacked gs [] = gs ≡ []
Stacked gs (f ∷ fs) =
    (below : List rFrame) × (top : rFrame)
    × (gs ≡ below ++ top ∷ []) × ShowsFrame top f × Stacked below fs

-- A run represents a task with these frames and with `x`. Each child took a step, so `few` is true.
pub record Shows (r : Run) (fs : List (Frame Own)) (x : Own) : Type 0 where
  pub frames : Stacked r.frames.items fs
  pub owned : x.owned ≡ owned_by r.thread.store.holdings
  pub pending : map (λ c. c.listed) x.pending ≡ map listed r.pending.items
  pub few : r.thread.spawned + r.thread.steps ≤ r.plan.budget.steps

-- a run represents this configuration
pub record IsAt (r : Run) (t : Standing Own) : Type 0 where
  pub own : Own
  pub shows : Shows r t.frames own
  pub is : with_own own (state_of r.thread) ≡ t.state
