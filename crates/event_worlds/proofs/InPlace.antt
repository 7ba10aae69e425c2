-- A step that a task's run takes in place, and an event for a step that isn't next.
use Rattle.std.proofs.Common.{◌≡◌, ℕ, List, Option, Some, None, refl, sym, ap, ◌∙◌, subst, inr}
use Rattle.std.specs.Prelude.{Bool, true, false, if◌then◌else◌}
use Rattle.std.specs.HashMap.{get}
use Rattle.std.specs.Prelude.{Ok}
use Rattle.types.specs.declared.path.Path.{Path}
use Rattle.effects.specs.Rounds.{needs_of}
use Rattle.task_run.specs.OwnRun.{Action, Step, Spawn, EnterFinish, EndFinish, EndTask, Start}
use Rattle.task_run.specs.Results.{TaskResult, and_then}
use Rattle.task_run.specs.Jobs.{program_of, budget_of}
use Rattle.event_worlds.specs.Acting.{SteppedIf, TookStep, TookStepIf}
use Rattle.event_worlds.specs.Courses.{IsNotToStep, course_of}
use Rattle.event_worlds.specs.Events.{Steps, by_step, next_action}
use Rattle.event_worlds.specs.Replay.{does, hands_on}
use Rattle.types.specs.Translation.{is_path}
use Rattle.event_worlds.specs.Shown.{Becomes, IsTaskOf, TaskStays}
use Rattle.event_worlds.specs.Walks.{IsIllegal}
use Rattle.event_worlds.specs.World.{Live, World, hand_of, task}
use Rattle.event_worlds.specs.declared.doing.TaskProgress.TheVariants.{Steps as rSteps}
use Rattle.event_worlds.specs.declared.task.WorldTask.{WorldTask as rTask}
use Rattle.event_worlds.specs.declared.world.World.{World as rWorld}
use Rattle.event_worlds.proofs.InHand.{its_doing, steps}
use Rattle.event_worlds.proofs.Lookups.{by_test}
use Rattle.event_worlds.proofs.Staying.{its_self, stays_put}
use Rattle.event_worlds.proofs.Tables.{there}

module _ (r : rWorld) (path : Path) (k : rTask) (at : get is_path r.tasks path ≡ Some k) where
  abbrev actions : Start → List (List TaskResult) → List Action
  actions = does (program_of r.job.job) (needs_of (program_of r.job.job)) (budget_of r.job.job).steps r.job.w0

  abbrev handed : Start → List (List TaskResult) → TaskResult
  handed = hands_on (program_of r.job.job) (needs_of (program_of r.job.job)) (budget_of r.job.job).steps r.job.w0

  -- a task whose next action isn't a step
  pub no_step : IsNotToStep r.job.job k.doing → IsIllegal r (Steps path.turns.items)
  no_step not w h = ap (λ o. and_then o by_task) t.1 ∙ by_hand (hand_of t.0.place) refl
    where
      t : (t : Live) × (task path.turns.items w.live ≡ Some t) × IsTaskOf r.job.job k t
      t = there (IsTaskOf r.job.job) k (get is_path r.tasks path) (task path.turns.items w.live) (h.tasks path) at

      go : Live → Action → Option World
      go its = by_step r.job.w0 actions handed its w

      by_task : Live → Option World
      by_task its = and_then (hand_of its.place) (λ v. and_then (next_action r.job.w0 actions handed its) (go its))

      by_action : (o : Option Action) → (o ≡ Some Step → ⊥) → and_then o (go t.0) ≡ None
      by_action None other = refl
      by_action (Some Step) other = absurd (other refl)
      by_action (Some (Spawn c)) other = refl
      by_action (Some EnterFinish) other = refl
      by_action (Some EndFinish) other = refl
      by_action (Some EndTask) other = refl

      by_hand : (o : Option ℕ) → hand_of t.0.place ≡ o
          → and_then o (λ v. and_then (next_action r.job.w0 actions handed t.0) (go t.0)) ≡ None
      by_hand None e = refl
      by_hand (Some v) e =
          by_action (next_action r.job.w0 actions handed t.0)
          (not (course_of t.0) (its_doing r.job.job k t.0 v t.2 (ap hand_of t.2.place ∙ e)))

  -- tables in which another task replaces it
  module _ (put : rTask → rWorld)
      (each : (x : rTask) (q : Path) → get is_path (put x).tasks q ≡ (if is_path path q then Some x else get is_path r.tasks q))
      (found : (x : rTask) → get is_path (put x).tasks path ≡ Some x) (new : rTask) where
    -- as if the step had been known before
    stepped : TookStep r.job.job k new → Becomes (Steps path.turns.items) r (record r { tasks = (put new).tasks })
    stepped s =
        (steps r mid path s.worker (record { task = known; at = found known; hand = s.hand; known = tt }) refl
        (stays_put r path k known (put known).tasks r.scopes at
        (record { doing = inr s.looked; opened = refl; place = refl; stakes = refl }) (each known) (λ q. refl))
        known new (found known) (record r { tasks = (put new).tasks })
        (λ q.
        each new q
        ∙ by_test (λ b. (if b then Some new else get is_path r.tasks q) ≡ (if b then Some new else get is_path mid.tasks q)) (is_path path q)
        (λ e. refl) (λ e. sym (each known q ∙ ap (λ b. if b then Some known else get is_path r.tasks q) e)))
        (Ok tt) (record { run = s.run; was = refl; now = s.now }) tt tt tt).0
      where
        known : rTask
        known = record k { doing = rSteps s.run }

        mid : rWorld
        mid = record r { tasks = (put known).tasks }

    -- it took the step, or it is unchanged
    pub stepped_if : (did : Bool) → TookStepIf did r.job.job k new → SteppedIf did path.turns.items r (record r { tasks = (put new).tasks })
    stepped_if true s = stepped s
    stepped_if false same =
        stays_put r path k new (put new).tasks r.scopes at (subst (λ z. TaskStays r.job.job k z) (sym same) (its_self r.job.job k)) (each new)
        (λ q. refl)
