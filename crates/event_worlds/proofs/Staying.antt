-- Tables that stay the same represent the same world.
use Rattle.std.proofs.Common.{◌≡◌, ℕ, List, Option, Some, None, refl, sym, ap, ◌∙◌, subst, inl, inr}
use Rattle.std.proofs.lemmas.Option.{none-some, same_Some}
use Rattle.std.specs.Prelude.{◌⊎◌, true, ◌&&◌, nat_eq, map, option_map, Vec, if◌then◌else◌}
use Rattle.std.specs.Cmp.Lexicographic.{pointwise}
use Rattle.std.specs.Global.{Global}
use Rattle.std.specs.HashMap.{HashMap, get, get_by}
use Rattle.std.specs.HashSet.{contains}
use Rattle.types.specs.declared.path.Path.{Path}
use Rattle.task_run.specs.Translation.{task_result}
use Rattle.task_run.specs.declared.result.TaskResult.{TaskResult as Made}
use Rattle.task_run.proofs.SettledResults.{paths_same}
use Rattle.task_run.specs.Jobs.{program_of, lists_of, budget_of}
use Rattle.task_run.specs.declared.job.Job.{Job}
use Rattle.event_worlds.specs.Acting.{IsSame}
use Rattle.event_worlds.specs.Courses.{Course, course_of, IsLooked}
use Rattle.event_worlds.specs.Events.{Event}
use Rattle.event_worlds.specs.Shown.{AreBoth, AreResultsOf, IsTaskOf, IsBookOf, IsDoingThere, IsTold, Refuses, ScopeStays, Shows, TaskStays, WorldStays}
use Rattle.types.specs.Translation.{is_path}
use Rattle.event_worlds.specs.Shown.{is_scope, next_world, scope_id, stake, whereabouts}
use Rattle.event_worlds.specs.World.{Live, Scope, ScopeId, World, Whereabouts, Queue, Hand, Parked, task, scope, has_passed, root_scope}
use Rattle.event_worlds.specs.Worlds.{LeadsTo}
use Rattle.event_worlds.specs.declared.doing.TaskProgress.{TaskProgress}
use Rattle.event_worlds.specs.declared.error.EventError.{EventError}
use Rattle.event_worlds.specs.declared.error.EventError.TheVariants.{Illegal, NoMemory}
use Rattle.types.specs.declared.scope_id.ScopeId.{ScopeId as rScopeId}
use Rattle.event_worlds.specs.declared.job.WeightedJob.{WeightedJob}
use Rattle.event_worlds.specs.declared.scope.WorldScope.{WorldScope as rScope}
use Rattle.event_worlds.specs.declared.task.WorldTask.{WorldTask as rTask}
use Rattle.event_worlds.specs.declared.world.World.{World as rWorld}
use Rattle.event_worlds.proofs.AnEnd.{still_at_an_end}
use Rattle.event_worlds.proofs.Lookups.{by_test, scopes_same}

-- ---- the entries of two tables at a key
pub both_self : {A : Type 0} (R : A → A → Type 0) → ((a : A) → R a a) → (o : Option A) → AreBoth R o o
both_self R self None = tt
both_self R self (Some a) = self a

both_on : {A : Type 0} (R : A → A → Type 0) → ((a b c : A) → R a b → R b c → R a c) → (x y z : Option A)
    → AreBoth R x y → AreBoth R y z → AreBoth R x z
both_on R on None None None h k = tt
both_on R on None None (Some c) h k = absurd k
both_on R on None (Some b) z h k = absurd h
both_on R on (Some a) None z h k = absurd h
both_on R on (Some a) (Some b) None h k = absurd k
both_on R on (Some a) (Some b) (Some c) h k = on a b c h k

both_over : {A B : Type 0} (R : A → A → Type 0) (Are : A → B → Type 0) → ((a b : A) → R a b → (x : B) → Are a x → Are b x)
    → (o n : Option A) (q : Option B) → AreBoth R o n → AreBoth Are o q → AreBoth Are n q
both_over R Are over None None q h k = k
both_over R Are over None (Some b) q h k = absurd h
both_over R Are over (Some a) None q h k = absurd h
both_over R Are over (Some a) (Some b) None h k = absurd k
both_over R Are over (Some a) (Some b) (Some x) h k = over a b h x k

-- equal keys find the same entry
at_path : {X S : Type 0} (m : HashMap Path X S) (p q : Path) → is_path p q ≡ true → get is_path m q ≡ get is_path m p
at_path m p q e =
    ap (λ (xs : List ℕ). get_by (λ (o : Path). pointwise nat_eq xs o.turns.items) m) (sym (paths_same p.turns.items q.turns.items e))

at_scope : {X S : Type 0} (m : HashMap rScopeId X S) (p q : rScopeId) → is_scope p q ≡ true → get is_scope m q ≡ get is_scope m p
at_scope m p q e =
    ap (λ (i : ScopeId). get_by (λ (o : rScopeId). pointwise nat_eq i.owner o.owner.turns.items && nat_eq i.number o.number) m)
    (sym (scopes_same (scope_id p) (scope_id q) e))

-- ---- tasks
doing_stays : (j : Job) (q : Whereabouts) (c : Course) (old new : TaskProgress) → (new ≡ old) ⊎ IsLooked j old new
    → IsDoingThere j q c old → IsDoingThere j q c new
doing_stays j q c old new (inl e) h = subst (λ d. IsDoingThere j q c d) (sym e) h
doing_stays j (Queue v) c old new (inr l) h = l.same c h
doing_stays j (Hand v) c old new (inr l) h = l.same c h
doing_stays j Parked c old new (inr l) h = record {
  before = h.before;
  last = h.last;
  at = l.same h.before h.at;
  waits = still_at_an_end j h.before old new h.waits h.at l.known (l.same h.before h.at);
}

pub task_stays : (j : Job) (old new : rTask) → TaskStays j old new → (t : Live) → IsTaskOf j old t → IsTaskOf j new t
task_stays j old new s t is = record {
  place = ap whereabouts s.place ∙ is.place;
  stakes = ap (map stake) s.stakes ∙ is.stakes;
  opened = s.opened ∙ is.opened;
  doing = doing_stays j t.place (course_of t) old.doing new.doing s.doing is.doing;
}

pub its_self : (j : Job) (k : rTask) → TaskStays j k k
its_self j k = record { doing = inl refl; opened = refl; place = refl; stakes = refl }

-- with its stakes possibly elsewhere in memory
pub alike_stays : (j : Job) (old new : rTask) → IsSame old new → TaskStays j old new
alike_stays j old new s = record { doing = inl s.doing; opened = s.opened; place = s.place; stakes = s.stakes }

task_on : (j : Job) (a b c : rTask) → TaskStays j a b → TaskStays j b c → TaskStays j a c
task_on j a b c h k = record {
  doing = doing_on h.doing k.doing;
  opened = k.opened ∙ h.opened;
  place = k.place ∙ h.place;
  stakes = k.stakes ∙ h.stakes;
}
  where
    doing_on : (b.doing ≡ a.doing) ⊎ IsLooked j a.doing b.doing → (c.doing ≡ b.doing) ⊎ IsLooked j b.doing c.doing
        → (c.doing ≡ a.doing) ⊎ IsLooked j a.doing c.doing
    doing_on (inl e) (inl f) = inl (f ∙ e)
    doing_on (inl e) (inr l) = inr (subst (λ d. IsLooked j d c.doing) e l)
    doing_on (inr l) (inl f) = inr (subst (λ d. IsLooked j a.doing d) (sym f) l)
    doing_on (inr l) (inr m) = inr (record { known = m.known; same = λ x h. m.same x (l.same x h) })

-- ---- scopes
results_stay : (o n : Option (Vec Made Global)) (b : Scope)
    → option_map (λ (v : Vec Made Global). v.items) n ≡ option_map (λ (v : Vec Made Global). v.items) o → AreResultsOf o b → AreResultsOf n b
results_stay None None b e h = h
results_stay None (Some v) b e h = absurd (none-some _ (sym e))
results_stay (Some v) None b e h = absurd (none-some _ e)
results_stay (Some v) (Some u) b e h = ap (map task_result) (same_Some _ _ e) ∙ h

pub scope_stays : (old new : rScope) → ScopeStays old new → (b : Scope) → IsBookOf old b → IsBookOf new b
scope_stays old new s b h = record {
  issued = s.issued ∙ h.issued;
  returned = s.returned ∙ h.returned;
  passed = s.passed ∙ h.passed;
  results = results_stay old.results new.results b s.results h.results;
  faults = s.faults ∙ h.faults;
}

scope_self : (s : rScope) → ScopeStays s s
scope_self s = record { issued = refl; returned = refl; passed = refl; results = refl; faults = refl }

scope_on : (a b c : rScope) → ScopeStays a b → ScopeStays b c → ScopeStays a c
scope_on a b c h k = record {
  issued = k.issued ∙ h.issued;
  returned = k.returned ∙ h.returned;
  passed = k.passed ∙ h.passed;
  results = k.results ∙ h.results;
  faults = k.faults ∙ h.faults;
}

-- ---- worlds
pub stays_shown : (old new : rWorld) → WorldStays old new → (w : World) → Shows old w → Shows new w
stays_shown old new s w h = record {
  events = h.events;
  led = subst (λ (j : WeightedJob). LeadsTo (program_of j.job) j.w0 (lists_of j.job) (budget_of j.job) h.events w) (sym s.job) h.led;
  tasks = λ q. subst (λ (j : WeightedJob). AreBoth (IsTaskOf j.job) (get is_path new.tasks q) (task q.turns.items w.live)) (sym s.job)
      (both_over (TaskStays old.job.job) (IsTaskOf old.job.job) (task_stays old.job.job) (get is_path old.tasks q) (get is_path new.tasks q)
      (task q.turns.items w.live) (s.tasks q) (h.tasks q));
  paths = h.paths;
  scopes = λ q. both_over ScopeStays IsBookOf scope_stays (get is_scope old.scopes q) (get is_scope new.scopes q)
      (scope (scope_id q) w.scopes) (s.scopes q) (h.scopes q);
  hands = λ v. s.hands v ∙ h.hands v;
  told = subst (λ (j : WeightedJob). IsTold j.job (has_passed root_scope w) new.told) (sym s.job)
      (subst (λ o. IsTold old.job.job (has_passed root_scope w) o) (sym s.told) h.told);
}

pub stays_on : (a b c : rWorld) → WorldStays a b → WorldStays b c → WorldStays a c
stays_on a b c h k = record {
  job = k.job ∙ h.job;
  tasks = λ q. both_on (TaskStays a.job.job) (task_on a.job.job) (get is_path a.tasks q) (get is_path b.tasks q) (get is_path c.tasks q) (h.tasks q)
      (subst (λ (j : WeightedJob). AreBoth (TaskStays j.job) (get is_path b.tasks q) (get is_path c.tasks q)) h.job (k.tasks q));
  scopes = λ q. both_on ScopeStays scope_on (get is_scope a.scopes q) (get is_scope b.scopes q) (get is_scope c.scopes q) (h.scopes q)
      (k.scopes q);
  hands = λ v. k.hands v ∙ h.hands v;
  told = k.told ∙ h.told;
}

-- with tables whose entries stay the same
module _ (r : rWorld) where
  tasks_self : (q : Path) → AreBoth (TaskStays r.job.job) (get is_path r.tasks q) (get is_path r.tasks q)
  tasks_self q = both_self (TaskStays r.job.job) (its_self r.job.job) (get is_path r.tasks q)

  scopes_self : (q : rScopeId) → AreBoth ScopeStays (get is_scope r.scopes q) (get is_scope r.scopes q)
  scopes_self q = both_self ScopeStays scope_self (get is_scope r.scopes q)

  stays_with : (tasks : _) (scopes : _) (hands : _)
      → ((q : Path) → AreBoth (TaskStays r.job.job) (get is_path r.tasks q) (get is_path tasks q))
      → ((q : rScopeId) → AreBoth ScopeStays (get is_scope r.scopes q) (get is_scope scopes q))
      → ((v : ℕ) → contains nat_eq hands v ≡ contains nat_eq r.hands v)
      → WorldStays r (record r { tasks = tasks; scopes = scopes; hands = hands })
  stays_with tasks scopes hands stay lie are = record { job = refl; tasks = stay; scopes = lie; hands = are; told = refl }

  pub stays_self : WorldStays r r
  stays_self = stays_with r.tasks r.scopes r.hands tasks_self scopes_self (λ v. refl)

  -- with equal tables
  same_tasks : {S : Type 0} (tasks : HashMap Path rTask S) → ((q : Path) → get is_path tasks q ≡ get is_path r.tasks q) → (q : Path)
      → AreBoth (TaskStays r.job.job) (get is_path r.tasks q) (get is_path tasks q)
  same_tasks tasks kept q = subst (λ o. AreBoth (TaskStays r.job.job) (get is_path r.tasks q) o) (sym (kept q)) (tasks_self q)

  same_scopes : {S : Type 0} (scopes : HashMap rScopeId rScope S) → ((q : rScopeId) → get is_scope scopes q ≡ get is_scope r.scopes q) → (q : rScopeId)
      → AreBoth ScopeStays (get is_scope r.scopes q) (get is_scope scopes q)
  same_scopes scopes kept q = subst (λ o. AreBoth ScopeStays (get is_scope r.scopes q) o) (sym (kept q)) (scopes_self q)

  pub stays_tasks : (tasks : _) → ((q : Path) → get is_path tasks q ≡ get is_path r.tasks q) → WorldStays r (record r { tasks = tasks })
  stays_tasks tasks kept = stays_with tasks r.scopes r.hands (same_tasks tasks kept) scopes_self (λ v. refl)

  pub stays_scopes : (scopes : _) → ((q : rScopeId) → get is_scope scopes q ≡ get is_scope r.scopes q)
      → WorldStays r (record r { scopes = scopes })
  stays_scopes scopes kept = stays_with r.tasks scopes r.hands tasks_self (same_scopes scopes kept) (λ v. refl)

  pub stays_hands : (hands : _) → ((v : ℕ) → contains nat_eq hands v ≡ contains nat_eq r.hands v)
      → WorldStays r (record r { hands = hands })
  stays_hands hands kept = stays_with r.tasks r.scopes hands tasks_self scopes_self kept

  -- with one task that stays the same, and unchanged scopes
  pub stays_put : (path : Path) (k new : rTask) (tasks : _) (scopes : _) → get is_path r.tasks path ≡ Some k
      → TaskStays r.job.job k new → ((q : Path) → get is_path tasks q ≡ (if is_path path q then Some new else get is_path r.tasks q))
      → ((q : rScopeId) → get is_scope scopes q ≡ get is_scope r.scopes q) → WorldStays r (record r { tasks = tasks; scopes = scopes })
  stays_put path k new tasks scopes at s each kept = stays_with tasks scopes r.hands put (same_scopes scopes kept) (λ v. refl)
    where
      put : (q : Path) → AreBoth (TaskStays r.job.job) (get is_path r.tasks q) (get is_path tasks q)
      put q =
          subst (λ o. AreBoth (TaskStays r.job.job) (get is_path r.tasks q) o) (sym (each q))
          (by_test (λ b. AreBoth (TaskStays r.job.job) (get is_path r.tasks q) (if b then Some new else get is_path r.tasks q)) (is_path path q)
          (λ e. subst (λ o. AreBoth (TaskStays r.job.job) o (Some new)) (sym (at_path r.tasks path q e ∙ at)) s)
          (λ e. tasks_self q))

  -- with one scope that stays the same
  pub stays_book : (id : rScopeId) (s to : rScope) (scopes : _) → get is_scope r.scopes id ≡ Some s → ScopeStays s to
      → ((q : rScopeId) → get is_scope scopes q ≡ (if is_scope id q then Some to else get is_scope r.scopes q))
      → WorldStays r (record r { scopes = scopes })
  stays_book id s to scopes at stays each = stays_with r.tasks scopes r.hands tasks_self put (λ v. refl)
    where
      put : (q : rScopeId) → AreBoth ScopeStays (get is_scope r.scopes q) (get is_scope scopes q)
      put q =
          subst (λ o. AreBoth ScopeStays (get is_scope r.scopes q) o) (sym (each q))
          (by_test (λ b. AreBoth ScopeStays (get is_scope r.scopes q) (if b then Some to else get is_scope r.scopes q)) (is_scope id q)
          (λ e. subst (λ o. AreBoth ScopeStays o (Some to)) (sym (at_scope r.scopes id q e ∙ at)) stays)
          (λ e. scopes_self q))

-- ---- errors
pub refuses_after : (old mid new : rWorld) (e : Event) (x : EventError) → WorldStays old mid → Refuses e mid new x → Refuses e old new x
refuses_after old mid new e Illegal still b = (
  stays_on old mid new still b.0,
  λ w h. subst (λ j. next_world j e w ≡ None) still.job (b.1 w (stays_shown old mid still w h)),
)
refuses_after old mid new e NoMemory still b = stays_on old mid new still b

pub refuses_by : (old new : rWorld) (e : Event) (x : EventError) → WorldStays old new
    → (x ≡ Illegal → (w : World) → Shows old w → next_world old.job e w ≡ None) → Refuses e old new x
refuses_by old new e Illegal still none = (still, none refl)
refuses_by old new e NoMemory still none = still
