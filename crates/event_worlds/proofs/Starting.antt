-- The world at the start, as the tables in Rust represent it.
use Rattle.std.proofs.Common.{◌≡◌, ℕ, [], ◌∷◌, Some, None, refl, sym, ap, subst}
use Rattle.std.specs.Prelude.{Bool, true, false, nat_eq, map, if◌then◌else◌}
use Rattle.std.specs.HashMap.{get}
use Rattle.std.specs.HashSet.{contains}
use Rattle.types.specs.declared.path.Path.{Path}
use Rattle.task_run.specs.Reached.{root_begins}
use Rattle.task_run.specs.Runs.{root as root_of}
use Rattle.task_run.specs.Translation.{start}
use Rattle.task_run.specs.declared.start.Start.{Start as rStart}
use Rattle.task_run.specs.Jobs.{program_of, lists_of, budget_of}
use Rattle.event_worlds.specs.Events.{new_task, new_scope}
use Rattle.event_worlds.specs.Replay.{start_of}
use Rattle.types.specs.Translation.{is_path}
use Rattle.event_worlds.specs.Shown.{AreBoth, IsTaskOf, IsBookOf, IsTold, Shows, is_scope, scope_id, stake}
use Rattle.event_worlds.specs.World.{Live, Queue, Stake, same_path, same_scope, root_scope, scope}
use Rattle.event_worlds.specs.declared.doing.TaskProgress.TheVariants.{Starts}
use Rattle.types.specs.declared.scope_id.ScopeId.{ScopeId as rScopeId}
use Rattle.event_worlds.specs.declared.scope.WorldScope.{WorldScope as rScope}
use Rattle.event_worlds.specs.declared.task.WorldTask.{WorldTask as rTask}
use Rattle.event_worlds.specs.declared.task.Whereabouts.TheVariants.{Queue as rQueue}
use Rattle.event_worlds.specs.declared.world.World.{World as rWorld}
use Rattle.event_worlds.proofs.Tables.{paths_more, paths_none}

one : {A B : Type 0} (Are : A → B → Type 0) (b : Bool) (x : A) (y : B) → Are x y
    → AreBoth Are (if b then Some x else None) (if b then Some y else None)
one Are true x y h = h
one Are false x y h = tt

module _ (r : rWorld) (root : rStart) (is : start root ≡ root_of (program_of r.job.job) (lists_of r.job.job) (budget_of r.job.job)) where
  abbrev first_stake : Stake
  first_stake = record { scope = root_scope; weight = r.job.w0 }

  abbrev first_task : Live
  first_task = new_task [] (root_of (program_of r.job.job) (lists_of r.job.job) (budget_of r.job.job)) first_stake 0

  pub shows_start : (stakes : _) (s : rScope) (path : Path) (id : rScopeId) (first : ℕ)
      → let k : rTask = record { doing = Starts root; opened = 0; stakes = stakes; place = rQueue first } in
      first ≡ 0 → path.turns.items ≡ [] → scope_id id ≡ root_scope → map stake stakes.items ≡ first_stake ∷ []
      → ((q : Path) → get is_path r.tasks q ≡ (if is_path path q then Some k else None))
      → ((q : rScopeId) → get is_scope r.scopes q ≡ (if is_scope id q then Some s else None))
      → ((v : ℕ) → contains nat_eq r.hands v ≡ false)
      → IsBookOf s (new_scope root_scope r.job.w0)
      → r.told ≡ None
      → Shows r (start_of (program_of r.job.job) r.job.w0 (lists_of r.job.job) (budget_of r.job.job))
  shows_start stakes s path id first zero named scoped staked tasks scopes hands book none =
      let k : rTask = record { doing = Starts root; opened = 0; stakes = stakes; place = rQueue first } in
      record {
        events = [];
        led = refl;
        tasks = λ q.
            subst (λ o. AreBoth (IsTaskOf r.job.job) o (if same_path [] q.turns.items then Some first_task else None)) (sym (tasks q))
            (subst (λ p. AreBoth (IsTaskOf r.job.job) (if same_path p q.turns.items then Some k else None)
            (if same_path [] q.turns.items then Some first_task else None)) (sym named)
            (one (IsTaskOf r.job.job) (same_path [] q.turns.items) k first_task (record {
              place = ap Queue zero;
              stakes = staked;
              opened = refl;
              doing = record { is = is; may = root_begins; receipts = refl; done = refl; spawned = refl; opened = refl };
            })));
        paths = paths_more first_task path [] named paths_none;
        scopes = λ q.
            subst (λ o. AreBoth IsBookOf o (scope (scope_id q) (new_scope root_scope r.job.w0 ∷ []))) (sym (scopes q))
            (subst (λ i. AreBoth IsBookOf (if same_scope i (scope_id q) then Some s else None)
            (scope (scope_id q) (new_scope root_scope r.job.w0 ∷ []))) (sym scoped)
            (one IsBookOf (same_scope root_scope (scope_id q)) s (new_scope root_scope r.job.w0) book));
        hands = hands;
        told = subst (IsTold r.job.job false) (sym none) refl;
      }
