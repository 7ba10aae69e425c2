-- A world in Rust after an event: its tables, the hands, and the events that led to it.
use Rattle.std.proofs.Common.{◌≡◌, ℕ, List, [], ◌∷◌, ◌++◌, Option, Some, None, refl, sym, ap, ◌∙◌, subst}
use Rattle.std.proofs.lemmas.Option.{none-some, same_Some}
use Rattle.std.specs.Prelude.{Bool, true, false, ◌&&◌, not, ℤ, if◌then◌else◌, is_some}
use Rattle.types.specs.Code.{Program}
use Rattle.types.specs.Outcome.{Budget}
use Rattle.types.specs.declared.path.Path.{Path}
use Rattle.effects.specs.Rounds.{needs_of}
use Rattle.task_run.proofs.SettledResults.{paths_same}
use Rattle.task_run.specs.declared.job.Job.{Job}
use Rattle.event_worlds.specs.Events.{Event}
use Rattle.types.specs.Translation.{is_path}
use Rattle.event_worlds.specs.Shown.{ArePaths, AreBoth, IsTaskOf, IsBookOf, is_scope, scope_id}
use Rattle.event_worlds.specs.World.{Live, Scope, World, same_path, task, put_task, without_task, scope, put_scope, in_hand, hand_is_free}
use Rattle.event_worlds.specs.Worlds.{LeadsTo, event_of}
use Rattle.types.specs.declared.scope_id.ScopeId.{ScopeId as rScopeId}
use Rattle.event_worlds.specs.declared.scope.WorldScope.{WorldScope as rScope}
use Rattle.event_worlds.specs.declared.task.WorldTask.{WorldTask as rTask}
use Rattle.event_worlds.proofs.Lookups.{by_test, other_path, task-put_task, task-without_task, scope-put_scope}
use Rattle.event_worlds.proofs.Outcomes.{replay_more}

pub pick : {A B : Type 0} (Are : A → B → Type 0) (b : Bool) (x u : Option A) (y v : Option B) → AreBoth Are x y → AreBoth Are u v
    → AreBoth Are (if b then x else u) (if b then y else v)
pick Are true x u y v h k = h
pick Are false x u y v h k = k

-- the entry of a table at a key, by the entry of the definitions
pub there : {A B : Type 0} (Are : A → B → Type 0) (a : A) (o : Option A) (q : Option B) → AreBoth Are o q → o ≡ Some a
    → (b : B) × (q ≡ Some b) × Are a b
there Are a (Some x) (Some b) h e = (b, refl, subst (λ z. Are z b) (same_Some x a e) h)
there Are a (Some x) None h e = absurd h
there Are a None q h e = absurd (none-some a e)

-- the task of a table at a path, by the task of the definitions
pub task_there : (j : Job) (k : rTask) (o : Option rTask) (q : Option Live) → AreBoth (IsTaskOf j) o q → o ≡ Some k
    → (t : Live) × IsTaskOf j k t
task_there j k o q h e = let t = there (IsTaskOf j) k o q h e in (t.0, t.2)

pub not_there : {A B : Type 0} (Are : A → B → Type 0) (o : Option A) (q : Option B) → AreBoth Are o q → o ≡ None → q ≡ None
not_there Are None None h e = refl
not_there Are None (Some b) h e = absurd h
not_there Are (Some x) q h e = absurd (none-some x (sym e))

-- and in the other direction
pub is_there : {A B : Type 0} (Are : A → B → Type 0) (b : B) (o : Option A) (q : Option B) → AreBoth Are o q → q ≡ Some b → is_some o ≡ true
is_there Are b (Some x) q h e = refl
is_there Are b None (Some y) h e = absurd h
is_there Are b None None h e = absurd (none-some b e)

module _ (j : Job) where
  -- a task is replaced
  pub tasks_put : (at to_at : Path → Option rTask) (k : Path) (new : rTask) (was to : Live) (live : List Live)
      → ((q : Path) → AreBoth (IsTaskOf j) (at q) (task q.turns.items live)) → task k.turns.items live ≡ Some was
      → to.path ≡ k.turns.items → IsTaskOf j new to
      → ((q : Path) → to_at q ≡ (if is_path k q then Some new else at q))
      → (q : Path) → AreBoth (IsTaskOf j) (to_at q) (task q.turns.items (put_task to live))
  tasks_put at to_at k new was to live h lives named is each q =
      subst (λ o. AreBoth (IsTaskOf j) o (task q.turns.items (put_task to live))) (sym (each q))
      (subst (λ o. AreBoth (IsTaskOf j) (if is_path k q then Some new else at q) o)
      (sym (task-put_task to was q.turns.items live (ap (λ p. task p live) named ∙ lives)
      ∙ ap (λ p. if same_path p q.turns.items then Some to else task q.turns.items live) named))
      (pick (IsTaskOf j) (is_path k q) (Some new) (at q) (Some to) (task q.turns.items live) is (h q)))

-- ---- the paths of live tasks
-- with a task replaced
pub paths_put : (to was : Live) (ts : List Live) → task to.path ts ≡ Some was → ArePaths ts → ArePaths (put_task to ts)
paths_put to was ts lives h q t e =
    by_test (λ b. (if b then Some to else task q ts) ≡ Some t → (path : Path) × (path.turns.items ≡ q)) (same_path to.path q)
    (λ same f. h q was (ap (λ p. task p ts) (sym (paths_same to.path q same)) ∙ lives))
    (λ other f. h q t f)
    (sym (task-put_task to was q ts lives) ∙ e)

-- without one task
pub paths_without : (path : List ℕ) (was : Live) (ts : List Live) → task path ts ≡ Some was → ArePaths ts → ArePaths (without_task path ts)
paths_without path was ts lives h q t e =
    by_test (λ b. same_path path q ≡ b → (path : Path) × (path.turns.items ≡ q)) (same_path path q)
    (λ same f. h q was (ap (λ p. task p ts) (sym (paths_same path q same)) ∙ lives))
    (λ other f. h q t (sym (task-without_task path q ts (other_path other)) ∙ e)) refl

-- with one more task
pub paths_more : (new : Live) (path : Path) (ts : List Live) → path.turns.items ≡ new.path → ArePaths ts → ArePaths (new ∷ ts)
paths_more new path ts named h q t e =
    by_test (λ b. (if b then Some new else task q ts) ≡ Some t → (path : Path) × (path.turns.items ≡ q)) (same_path new.path q)
    (λ same f. (path, named ∙ paths_same new.path q same)) (λ other f. h q t f) e

pub paths_none : ArePaths []
paths_none q t e = absurd (none-some _ e)

-- a scope is replaced
pub scopes_put : (at to_at : rScopeId → Option rScope) (k : rScopeId) (new : rScope) (was to : Scope) (ss : List Scope)
    → ((q : rScopeId) → AreBoth IsBookOf (at q) (scope (scope_id q) ss)) → scope (scope_id k) ss ≡ Some was
    → to.id ≡ scope_id k → IsBookOf new to
    → ((q : rScopeId) → to_at q ≡ (if is_scope k q then Some new else at q))
    → (q : rScopeId) → AreBoth IsBookOf (to_at q) (scope (scope_id q) (put_scope to ss))
scopes_put at to_at k new was to ss h there named is each q =
    subst (λ o. AreBoth IsBookOf o (scope (scope_id q) (put_scope to ss))) (sym (each q))
    (subst (λ o. AreBoth IsBookOf (if is_scope k q then Some new else at q) o)
    (sym (scope-put_scope to was (scope_id q) ss (ap (λ i. scope i ss) named ∙ there)
    ∙ ap (λ i. if Rattle.event_worlds.specs.World.same_scope i (scope_id q) then Some to else scope (scope_id q) ss) named))
    (pick IsBookOf (is_scope k q) (Some new) (at q) (Some to) (scope (scope_id q) ss) is (h q)))

-- ---- hands
swap : (a b c : Bool) → (a && (b && c)) ≡ (b && (a && c))
swap true b c = refl
swap false true c = refl
swap false false c = refl

-- the taken hands, with one more
pub taken_hand : (b f : Bool) → (if b then true else not f) ≡ not (not b && f)
taken_hand true f = refl
taken_hand false f = refl

-- a task that wasn't in this hand is replaced
pub free_put : (v : ℕ) (to was : Live) (ts : List Live) → task to.path ts ≡ Some was → in_hand was.place v ≡ false
    → hand_is_free v (put_task to ts) ≡ (not (in_hand to.place v) && hand_is_free v ts)
free_put v to was [] lives out = absurd (none-some _ lives)
free_put v to was (t ∷ ts) lives out =
    by_test
    (λ b. (if b then Some t else task to.path ts) ≡ Some was
    → hand_is_free v (if b then to ∷ ts else t ∷ put_task to ts) ≡ (not (in_hand to.place v) && (not (in_hand t.place v) && hand_is_free v ts)))
    (same_path t.path to.path)
    (λ e l. ap (λ b. not (in_hand to.place v) && (not b && hand_is_free v ts))
    (sym (ap (λ (t : Live). in_hand t.place v) (same_Some t was l) ∙ out)))
    (λ e l. ap (λ b. not (in_hand t.place v) && b) (free_put v to was ts l out)
    ∙ swap (not (in_hand t.place v)) (not (in_hand to.place v)) (hand_is_free v ts))
    lives

-- ---- events
-- one event more leads on
pub led_on : (p : Program) (w0 : ℕ) (input : List (List ℤ)) (b : Budget) (e : Event) (es : List Event) (w to : World)
    → LeadsTo p w0 input b es w → event_of p w0 b e w ≡ Some to → LeadsTo p w0 input b (es ++ e ∷ []) to
led_on p w0 input b e es w to h k = replay_more p (needs_of p) w0 input b es e w to h k
