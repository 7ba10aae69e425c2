-- The ten events: when each is legal, and the world after it.
use Rattle.std.specs.Prelude.{ℕ, ◌+◌, ◌-◌, ◌*◌, ◌/◌, ◌^◌, List, [], ◌∷◌, ◌++◌, Bool, true, false, ◌&&◌}
use Rattle.std.specs.Prelude.{not, nat_lt, nat_le, nat_eq, Option, Some, None, slice_get}
pub use Rattle.events.specs.Events.{Event, Take, Steal, Steps, Replenish, Spawns, Opens, Parks}
pub use Rattle.events.specs.Events.{Ends, Pass, Resume}
use Rattle.task_run.specs.Results.{TaskResult, and_then}
use Rattle.task_run.specs.OwnRun.{Start, Action, Step, Spawn, EnterFinish, EndFinish, EndTask}
use Rattle.event_worlds.specs.World.{ScopeId, Stake, Live, Scope, World, Whereabouts, Queue, Hand, Parked}
use Rattle.event_worlds.specs.World.{same_path, root_scope, child_path, task, put_task, without_task, scope}
use Rattle.event_worlds.specs.World.{put_scope, in_queue, is_parked, hand_of, hand_is_free}

-- None unless the test is true
abbrev pub only_if : {A : Type 0} → Bool → Option A → Option A
only_if true o = o
only_if false o = None

-- ---- the changes by events
-- a task is at another location
abbrev pub moved : Whereabouts → Live → World → World
moved to t world = record world { live = put_task (record t { place = to }) world.live }

-- a scope issues more
abbrev pub issue : ℕ → Scope → Scope
issue w s = record s { issued = s.issued + w }

-- a scope has issued fewer than 2^31 times
abbrev pub may_issue : (w0 : ℕ) → Scope → Bool
may_issue w0 s = nat_lt s.issued (2 ^ 31 * w0)

-- weight comes back, and results with it
abbrev pub give_back : ℕ → List TaskResult → Scope → Scope
give_back w results s = record s { returned = s.returned + w; results = s.results ++ results }

-- a scope is that of one of the task's own finishes, so the task waits at its end
abbrev pub owns : Live → ScopeId → Bool
owns t id = same_path t.path id.owner

-- one more action is done, and the task is in these scopes
abbrev pub did : Live → List Stake → Live
did t stakes = record t { done = t.done + 1; stakes = stakes }

-- a finish's scope, whose owner has the weight
abbrev pub new_scope : ScopeId → (w0 : ℕ) → Scope
new_scope id w0 = record { id = id; issued = w0; returned = 0; results = []; passed = false }

-- a task at its start
abbrev pub new_task : List ℕ → Start → Stake → (worker : ℕ) → Live
new_task path start stake w = record {
  path = path;
  start = start;
  receipts = [];
  done = 0;
  spawned = 0;
  opened = 0;
  stakes = stake ∷ [];
  place = Queue w;
}

-- the root is in the first queue, and has the weight of its scope
abbrev pub first_world : (w0 : ℕ) → Start → World
first_world w0 root = record {
  live = new_task [] root (record { scope = root_scope; weight = w0 }) 0 ∷ [];
  scopes = new_scope root_scope w0 ∷ [];
}

-- `actions` are the actions of an own run with these receipts, `result` is its result
module _ (w0 : ℕ) (actions : Start → List (List TaskResult) → List Action)
    (result : Start → List (List TaskResult) → TaskResult) where
  -- a task's next action; None if its own run waits
  abbrev pub next_action : Live → Option Action
  next_action t = slice_get (actions t.start t.receipts) t.done

  -- a task in a hand, with its next action
  abbrev pub with_next : List ℕ → World → (Live → Action → Option World) → Option World
  with_next path world go =
      and_then (task path world.live) (λ t.
      and_then (hand_of t.place) (λ w.
      and_then (next_action t) (go t)))

  -- with its innermost scope
  abbrev pub in_innermost : List Stake → (Stake → List Stake → Option World) → Option World
  in_innermost [] go = None
  in_innermost (s ∷ outer) go = go s outer

  -- its next action is a step
  abbrev pub by_step : Live → World → Action → Option World
  by_step t world Step = Some (record world { live = put_task (did t t.stakes) world.live })
  by_step t world _ = None

  -- it is about to spawn a task, has weight 1, and its scope may issue
  abbrev pub by_replenish : Live → Stake → List Stake → World → Action → Option World
  by_replenish t s outer world (Spawn c) =
      and_then (scope s.scope world.scopes) (λ r.
      only_if (nat_eq s.weight 1 && may_issue w0 r) (Some (record {
        live = put_task (record t { stakes = record s { weight = 1 + w0 } ∷ outer }) world.live;
        scopes = put_scope (issue w0 r) world.scopes;
      })))
  by_replenish t s outer world _ = None

  -- it is about to spawn a task, and has at least weight 2: the child gets half, rounded down
  abbrev pub by_spawn : Live → Stake → List Stake → World → Action → Option World
  by_spawn t s outer world (Spawn c) =
      and_then (hand_of t.place) (λ w. only_if (nat_le 2 s.weight) (
      let kept : Stake = record s { weight = s.weight - s.weight / 2 } in
      Some (record world {
        live = new_task (child_path t.path (t.spawned + 1)) c (record s { weight = s.weight / 2 }) w
            ∷ put_task (record (did t (kept ∷ outer)) { spawned = t.spawned + 1 }) world.live;
      })))
  by_spawn t s outer world _ = None

  -- it is about to start a finish, whose scope has the weight W0
  abbrev pub by_open : Live → World → Action → Option World
  by_open t world EnterFinish =
      let id : ScopeId = record { owner = t.path; number = t.opened + 1 } in
      let inner : Stake = record { scope = id; weight = w0 } in
      Some (record {
        live = put_task (record (did t (inner ∷ t.stakes)) { opened = t.opened + 1 }) world.live;
        scopes = new_scope id w0 ∷ world.scopes;
      })
  by_open t world _ = None

  -- it is about to end a finish, that of its innermost scope
  abbrev pub by_park : Live → Stake → List Stake → World → Action → Option World
  by_park t s outer world EndFinish =
      and_then (scope s.scope world.scopes) (λ r. only_if (owns t s.scope) (
      let weightless : Stake = record s { weight = 0 } in
      Some (record {
        live = put_task (record (did t (weightless ∷ outer)) { place = Parked }) world.live;
        scopes = put_scope (give_back s.weight [] r) world.scopes;
      })))
  by_park t s outer world _ = None

  -- it is about to end, and has no finish open
  abbrev pub by_end : Live → Stake → List Stake → World → Action → Option World
  by_end t s outer world EndTask =
      and_then (scope s.scope world.scopes) (λ r. only_if (not (owns t s.scope)) (
      let handed_on = result t.start t.receipts ∷ [] in
      Some (record {
        live = without_task t.path world.live;
        scopes = put_scope (give_back s.weight handed_on r) world.scopes;
      })))
  by_end t s outer world _ = None

  -- all weight has come back, and the scope hasn't passed yet
  abbrev pub by_pass : World → Scope → Option World
  by_pass world s =
      only_if (not s.passed && nat_eq s.issued s.returned)
      (Some (record world { scopes = put_scope (record s { passed = true }) world.scopes }))

  -- back in a hand with the receipt of the finish; no task leaves the root's scope
  abbrev pub by_resume : ℕ → Live → World → List Stake → Option World
  by_resume w t world (s ∷ outer ∷ more) =
      and_then (scope s.scope world.scopes) (λ r.
      only_if (is_parked t.place && (r.passed && hand_is_free w world.live)) (
      let receipts = t.receipts ++ r.results ∷ [] in
      Some (record world {
        live = put_task (record t { receipts = receipts; stakes = outer ∷ more; place = Hand w })
            world.live;
      })))
  by_resume w t world (s ∷ []) = None
  by_resume w t world [] = None

  -- the world after an event, if it is legal
  abbrev pub next : Event → World → Option World
  next (Take w path) world =
      and_then (task path world.live) (λ t.
      only_if (in_queue t.place w && hand_is_free w world.live) (Some (moved (Hand w) t world)))
  next (Steal w from path) world =
      and_then (task path world.live) (λ t.
      only_if (in_queue t.place from && not (nat_eq from w)) (Some (moved (Queue w) t world)))
  next (Steps path) world = with_next path world (λ t. by_step t world)
  next (Replenish path) world =
      with_next path world (λ t a. in_innermost t.stakes (λ s outer. by_replenish t s outer world a))
  next (Spawns path) world =
      with_next path world (λ t a. in_innermost t.stakes (λ s outer. by_spawn t s outer world a))
  next (Opens path) world = with_next path world (λ t. by_open t world)
  next (Parks path) world =
      with_next path world (λ t a. in_innermost t.stakes (λ s outer. by_park t s outer world a))
  next (Ends path) world =
      with_next path world (λ t a. in_innermost t.stakes (λ s outer. by_end t s outer world a))
  next (Pass id) world = and_then (scope id world.scopes) (by_pass world)
  next (Resume w path faults) world =
      and_then (task path world.live) (λ t. by_resume w t world t.stakes)

  -- the world after a list of events, if all are legal
  abbrev pub after : List Event → World → Option World
  after [] world = Some world
  after (e ∷ es) world = and_then (next e world) (after es)
