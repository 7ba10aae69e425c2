-- The state of a run, as the definitions see it.
use Rattle.std.specs.Prelude.{ℕ, ◌+◌, ◌≡◌, map}
use Rattle.types.specs.Contents.{Contents}
use Rattle.types.specs.Run.{Flow, On, Faulted, Stopped, State, at_flow, stopped}
use Rattle.types.specs.Translation.{environment, fault}
use Rattle.statement_steps.specs.declared.flow.Flow.{Flow as rFlow}
use Rattle.statement_steps.specs.declared.flow.Flow.TheVariants.{On as rOn, Faulted as rFaulted}
use Rattle.statement_steps.specs.declared.flow.Flow.TheVariants.{Stopped as rStopped}
use Rattle.statement_steps.specs.declared.store.Store.{Store}
use Rattle.statement_steps.specs.declared.thread.Thread.{Thread}
use Rattle.statement_steps.specs.Lists.{contents_of}

-- whether the task continues
abbrev pub flow : rFlow → Flow
flow rOn = On
flow rFaulted = Faulted
flow rStopped = Stopped

-- the state of the task whose statements are executed now, with all output so far, where `contents`
-- gives the contents of its memory
abbrev pub state_by : {S : Type 0} → (contents : S → Contents) → Thread S → State (Unit {0})
state_by contents t = record {
  flow = flow t.flow;
  environment = environment t.environment;
  store = contents t.store;
  lines = map (λ v. v.items) t.lines.items;
  faults = map fault t.faults.items;
  steps = t.steps;
  path = t.path.turns.items;
  spawned = t.spawned;
  extra = tt;
}

-- the state on one thread
abbrev pub state_of : Thread Store → State (Unit {0})
state_of = state_by contents_of

-- a state, and how many more asyncs can be nested
pub record Standing : Type 0 where
  pub state : State (Unit {0})
  pub nest : ℕ

-- the task keeps its budget, its children and its windows, and its memory keeps what writes leave
-- unchanged
pub record KeepsTask {S A : Type 0} (shape : S → A) (old new : Thread S) : Type 0 where
  pub steps : new.steps ≡ old.steps
  pub nest : new.nest ≡ old.nest
  pub spawned : new.spawned ≡ old.spawned
  pub windows : (environment new.environment).windows ≡ (environment old.environment).windows
  pub memory : shape new.store ≡ shape old.store

-- the flow was on, and one step was taken from the budget
pub record TakesStep {S : Type 0} (old new : Thread S) : Type 0 where
  pub on : old.flow ≡ rOn
  pub less : new.steps + 1 ≡ old.steps
  pub same : new ≡ record old { steps = new.steps }

-- nothing is done: either the flow wasn't on, or no step was left and the task is stopped
pub record MissesStep {S : Type 0} (contents : S → Contents) (old new : Thread S) : Type 0 where
  pub none : old.flow ≡ rOn → old.steps ≡ 0
  pub flow : state_by contents new
      ≡ at_flow (flow old.flow) (state_by contents old) stopped
  pub same : new ≡ record old { flow = new.flow }
