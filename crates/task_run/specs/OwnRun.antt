-- A task's own run: its asyncs are listed, and their results are put in at the end of a finish.
use Rattle.std.specs.Prelude.{ℕ, zero, suc, ◌+◌, List, [], ◌∷◌, ◌++◌, map, Bool, true, false, not}
use Rattle.std.specs.Prelude.{◌&&◌, ◌||◌, Option, Some, None, slice_get, if◌then◌else◌}
use Rattle.sections.specs.Covers.{has}
use Rattle.types.specs.Code.{Codes, Program}
use Rattle.types.specs.Contents.{Contents}
use Rattle.types.specs.Value.{Environment}
use Rattle.types.specs.Run.{Flow, On, Stopped, State, Rules, Block, stopped, run}
use Rattle.types.specs.Meaning.{hushed, after_finish}
use Rattle.effects.specs.Needs.{Needs}
use Rattle.task_run.specs.Places.{written, touched, Places, only, without}
use Rattle.task_run.specs.Apart.{is_stopped}
use Rattle.task_run.specs.Results.{Listed, TaskResult, Settled, and_then, returned}
use Rattle.task_run.specs.Settling.{settle}

-- what a task starts with, except its steps
pub record Start : Type 0 where
  pub body : Codes
  pub environment : Environment
  -- what it may read, and what it may write
  pub contents : Contents
  pub owned : Places
  -- how many levels deep asyncs may be nested in it
  pub nest : ℕ
  pub path : List ℕ

-- a spawned task, and what its parent keeps of it
pub record Child : Type 0 where
  pub start : Start
  pub listed : Listed

-- the actions of a task that other tasks can see
pub data Action : Type 0 where
  Step : Action
  Spawn : Start → Action
  EnterFinish : Action
  EndFinish : Action
  EndTask : Action

-- what an own run keeps in addition to the state
pub record Own : Type 0 where
  -- the tasks spawned in the innermost open finish
  pub pending : List Child
  -- the number of finishes that have ended
  pub ended : ℕ
  pub actions : List Action
  -- the places that it may write
  pub owned : Places
  -- it is at the end of a finish whose settled result isn't there
  pub waits : Bool

-- the initial values
abbrev pub at_first : Places → Own
at_first owned = record { pending = []; ended = 0; actions = []; owned = owned; waits = false }

-- notes an action
abbrev pub notes : Action → Own → Own
notes a x = record x { actions = x.actions ++ a ∷ [] }

-- a task waits and can't continue
abbrev pub is_waiting : State Own → Bool
is_waiting st = is_stopped st.flow && st.extra.waits

-- what a task has made since its innermost open finish began, or since its own start
abbrev pub result_of : State Own → TaskResult
result_of st = record {
  path = st.path;
  stopped = is_stopped st.flow;
  contents = st.store;
  owned = st.extra.owned;
  lines = st.lines;
  faults = st.faults;
  children = map (λ c. c.listed) st.extra.pending;
}

-- the child of an async, with `nest` nesting levels
abbrev pub child_of : Needs → (nest : ℕ) → Codes → State Own → Child
child_of n nest b st =
    let path = st.path ++ (st.spawned + 1) ∷ [] in
    record {
      start = record {
        body = b;
        environment = st.environment;
        contents = only (touched st.environment n) st.store;
        owned = written st.environment n;
        nest = nest;
        path = path;
      };
      listed = record {
        path = path;
        windows = map st.environment.windows n.writes;
        lines = st.lines;
        faults = st.faults;
      };
    }

-- the parent continues without what the child may write, and after the child's hole
abbrev pub list_child : Needs → (nest : ℕ) → Codes → State Own → State Own
list_child n nest b st =
    let c = child_of n nest b st in
    record (hushed st) {
      flow = On;
      store = without (written st.environment n) st.store;
      spawned = st.spawned + 1;
      extra = notes (Spawn c.start) (record st.extra {
        pending = st.extra.pending ++ c ∷ [];
        owned = λ q. st.extra.owned q && not (has c.listed.windows q);
      });
    }

-- if no nesting level is left, the task is stopped
abbrev pub begin_own : (Codes → Needs) → (nest : ℕ) → Codes → State Own → State Own
begin_own needs zero b st = stopped st
begin_own needs (suc n) b st = list_child (needs b) n b st

-- the places that come back from children
abbrev pub back_from : List Child → Places
back_from cs = returned (map (λ c. c.listed) cs)

-- whether a task continues after a finish
abbrev pub flow_after : Settled → Flow
flow_after s = if s.stopped then Stopped else after_finish On s.faults

-- the task continues after the finish with the settled result
abbrev pub go_on_with : (before out : State Own) → Settled → State Own
go_on_with before out s = record out {
  flow = flow_after s;
  store = s.contents;
  lines = before.lines ++ s.lines;
  faults = before.faults ++ s.faults;
  extra = record out.extra {
    pending = before.extra.pending;
    ended = out.extra.ended + 1;
    owned = λ q. out.extra.owned q || back_from out.extra.pending q;
  };
}

-- it waits if there is no settled result
abbrev pub leave_with : (before out : State Own) → Option Settled → State Own
leave_with before out None =
    record out { flow = Stopped; extra = record out.extra { waits = true } }
leave_with before out (Some s) = go_on_with before out s

-- the end of a finish is recorded, and the task continues or waits
abbrev pub leave_own : (State Own → Option Settled) → (before out : State Own) → State Own
leave_own close before out =
    if is_waiting out then out
    else leave_with before (record out { extra = notes EndFinish out.extra }) (close out)

-- the rules of a single task, where `close` returns the settled result of a finish that is at its
-- end
abbrev pub own_rules : (Codes → Needs) → (nest : ℕ) → (close : State Own → Option Settled)
    → Rules Own
own_rules needs nest close = record {
  stepped = λ l. notes Step;
  begin = λ l. begin_own needs nest;
  enter = λ l st. record (hushed st) {
    extra = notes EnterFinish (record st.extra { pending = [] });
  };
  leave = leave_own close;
}

-- a task at its start
abbrev pub beginning : {X : Type 0} → X → (fresh : ℕ) → Start → State X
beginning x fresh s = record {
  flow = On;
  environment = s.environment;
  store = s.contents;
  lines = [];
  faults = [];
  steps = fresh;
  path = s.path;
  spawned = 0;
  extra = x;
}

-- the end of a task is the last action; for the root it is the end of `main`'s finish
abbrev pub last_action : List ℕ → Action
last_action [] = EndFinish
last_action (k ∷ path) = EndTask

-- all actions of a task in order, as far as its run goes
abbrev pub actions_of : State Own → List Action
actions_of st =
    if is_waiting st then st.extra.actions else st.extra.actions ++ last_action st.path ∷ []

-- the starts of the tasks that were spawned by these actions
abbrev pub begun_by : List Action → List Start
begun_by [] = []
begun_by (Spawn s ∷ rest) = s ∷ begun_by rest
begun_by (Step ∷ rest) = begun_by rest
begun_by (EnterFinish ∷ rest) = begun_by rest
begun_by (EndFinish ∷ rest) = begun_by rest
begun_by (EndTask ∷ rest) = begun_by rest

-- the k-th of these starts, from 1
abbrev pub kth : ℕ → List Start → Option Start
kth zero ss = None
kth (suc k) ss = slice_get ss k

-- what the receipt of a finish settles to; None if the receipt is missing or belongs to another
-- finish
abbrev pub from_receipts : List (List TaskResult) → State Own → Option Settled
from_receipts receipts st = and_then (slice_get receipts st.extra.ended) (settle (result_of st))

module _ (p : Program) (needs : Codes → Needs) (fresh : ℕ) where
  -- the own run of a task, where `close` returns the settled result of each finish
  abbrev pub own_run : (State Own → Option Settled) → Start → State Own
  own_run close s =
      run p (own_rules needs s.nest close) (Block s.body) (beginning (at_first s.owned) fresh s)

  -- the own run by receipts, as far as they go
  abbrev pub run_by : List (List TaskResult) → Start → State Own
  run_by receipts = own_run (from_receipts receipts)

  -- the next action of a task that has these receipts and has done this number of actions; None if
  -- it waits
  abbrev pub next_action : (receipts : List (List TaskResult)) → (done : ℕ) → Start → Option Action
  next_action receipts done s = slice_get (actions_of (run_by receipts s)) done
