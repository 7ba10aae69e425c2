-- Events by which a task changes its location, or a scope passes, as the tables in Rust represent
-- them.
use Rattle.std.proofs.Common.{◌≡◌, ℕ, [], ◌∷◌, ◌++◌, Option, Some, None, refl, sym, ap, ◌∙◌, subst}
use Rattle.std.proofs.lemmas.Bool.{ne_eqb, not-false}
use Rattle.std.specs.Prelude.{Bool, true, false, ◌&&◌, not, nat_eq, if◌then◌else◌}
use Rattle.std.specs.HashMap.{get}
use Rattle.std.specs.HashSet.{contains}
use Rattle.shared_lemmas.proofs.Truths.{false_true}
use Rattle.types.specs.declared.path.Path.{Path}
use Rattle.effects.specs.Rounds.{needs_of}
use Rattle.task_run.specs.Results.{and_then}
use Rattle.task_run.specs.Jobs.{program_of, lists_of, budget_of}
use Rattle.task_run.specs.declared.job.Job.{Job}
use Rattle.event_worlds.specs.Courses.{Course, course_of, IsDoing}
use Rattle.event_worlds.specs.Events.{Event, Take, Steal, Pass, only_if, moved, by_pass}
use Rattle.event_worlds.specs.Replay.{does, hands_on}
use Rattle.types.specs.Translation.{is_path}
use Rattle.event_worlds.specs.Shown.{IsTaskOf, IsBookOf, IsDoingThere, is_scope, scope_id, whereabouts}
use Rattle.event_worlds.specs.Shown.{AreResultsOf, IsTold, Shows, next_world}
use Rattle.event_worlds.specs.World.{Live, Scope, World, Whereabouts, Queue, Hand, Parked, task, scope, put_scope}
use Rattle.event_worlds.specs.World.{in_queue, in_hand, hand_is_free, has_passed, root_scope}
use Rattle.event_worlds.specs.Worlds.{LeadsTo}
use Rattle.event_worlds.specs.declared.doing.TaskProgress.{TaskProgress}
use Rattle.types.specs.declared.scope_id.ScopeId.{ScopeId as rScopeId}
use Rattle.event_worlds.specs.declared.scope.WorldScope.{WorldScope as rScope}
use Rattle.event_worlds.specs.declared.task.WorldTask.{WorldTask as rTask}
use Rattle.event_worlds.specs.declared.task.Whereabouts.{Whereabouts as rWhereabouts}
use Rattle.event_worlds.specs.declared.task.Whereabouts.TheVariants.{Queue as rQueue, Hand as rHand}
use Rattle.event_worlds.specs.declared.world.World.{World as rWorld}
use Rattle.event_worlds.proofs.Lookups.{task_path, scope_id as named_so, scope_is, passed_beside, scope-put_scope}
use Rattle.event_worlds.proofs.Tables.{there, tasks_put, paths_put, scopes_put, taken_hand, free_put, led_on}
use Rattle.event_worlds.proofs.Hands.{queue_out}

queued_doing : (j : Job) (q : Whereabouts) (w : ℕ) (c : Course) (d : TaskProgress) → in_queue q w ≡ true → IsDoingThere j q c d → IsDoing j c d
queued_doing j (Queue v) w c d e h = h
queued_doing j (Hand v) w c d e h = h
queued_doing j Parked w c d e h = false_true e

-- if the task with a path is in a queue, it is so in the world of the definitions
pub record Found (old : rWorld) (w : World) (path : Path) (worker : ℕ) (k : rTask) : Type 0 where
  pub its : Live
  pub lives : task path.turns.items w.live ≡ Some its
  pub is : IsTaskOf old.job.job k its
  pub queued : in_queue its.place worker ≡ true

module _ (old : rWorld) (w : World) (h : Shows old w) (path : Path) where
  pub found : (worker : ℕ) (k : rTask) → get is_path old.tasks path ≡ Some k → in_queue (whereabouts k.place) worker ≡ true
      → Found old w path worker k
  found worker k at queued =
      let t = there (IsTaskOf old.job.job) k (get is_path old.tasks path) (task path.turns.items w.live) (h.tasks path) at in
      record { its = t.0; lives = t.1; is = t.2; queued = ap (λ q. in_queue q worker) (sym t.2.place) ∙ queued }

  -- a task in a queue moves to another location
  module _ (from : ℕ) (k : rTask) (at : get is_path old.tasks path ≡ Some k) (queued : in_queue (whereabouts k.place) from ≡ true)
      (place : rWhereabouts) (new : rWorld)
      (each : (q : Path) → get is_path new.tasks q ≡ (if is_path path q then Some (record k { place = place }) else get is_path old.tasks q)) where
    abbrev its : Live
    its = (found from k at queued).its

    abbrev to : World
    to = moved (whereabouts place) its w

    shows_moved : (e : Event) → ((c : Course) (d : TaskProgress) → IsDoing old.job.job c d → IsDoingThere old.job.job (whereabouts place) c d)
        → next_world old.job e w ≡ Some to
        → ((v : ℕ) → contains nat_eq new.hands v ≡ not (not (in_hand (whereabouts place) v) && hand_is_free v w.live))
        → Shows (record old { tasks = new.tasks; hands = new.hands }) to
    shows_moved e so legal hand =
        let f = found from k at queued in
        let named = task_path path.turns.items w.live its f.lives in
        record {
          events = h.events ++ e ∷ [];
          led = led_on (program_of old.job.job) old.job.w0 (lists_of old.job.job) (budget_of old.job.job) e h.events w to h.led legal;
          tasks = tasks_put old.job.job (get is_path old.tasks) (get is_path new.tasks) path (record k { place = place }) its
              (record its { place = whereabouts place }) w.live h.tasks f.lives named
              (record {
                place = refl;
                stakes = f.is.stakes;
                opened = f.is.opened;
                doing = so (course_of its) k.doing (queued_doing old.job.job its.place from (course_of its) k.doing f.queued f.is.doing);
              })
              each;
          paths = paths_put (record its { place = whereabouts place }) its w.live (ap (λ p. task p w.live) named ∙ f.lives) h.paths;
          scopes = h.scopes;
          hands = λ v. hand v
              ∙ ap not (sym (free_put v (record its { place = whereabouts place }) its w.live (ap (λ p. task p w.live) named ∙ f.lives)
              (queue_out its.place from v f.queued)));
          told = h.told;
        }

    -- into a hand that was free
    pub taken : (worker : ℕ) → place ≡ rHand worker → worker ≡ from → contains nat_eq old.hands worker ≡ false
        → ((v : ℕ) → contains nat_eq new.hands v ≡ (if nat_eq worker v then true else contains nat_eq old.hands v))
        → (next : World) × (next_world old.job (Take worker path.turns.items) w ≡ Some next)
        × Shows (record old { tasks = new.tasks; hands = new.hands }) next
    taken worker put same free hand = (to, legal, shows_moved (Take worker path.turns.items) so legal hands_so)
      where
        f : Found old w path from k
        f = found from k at queued

        so : (c : Course) (d : TaskProgress) → IsDoing old.job.job c d → IsDoingThere old.job.job (whereabouts place) c d
        so c d x = subst (λ (q : rWhereabouts). IsDoingThere old.job.job (whereabouts q) c d) (sym put) x

        room : hand_is_free worker w.live ≡ true
        room = not-false (hand_is_free worker w.live) (sym (h.hands worker) ∙ free)

        legal : next_world old.job (Take worker path.turns.items) w ≡ Some to
        legal =
            ap (λ o. and_then o (λ (t : Live). only_if (in_queue t.place worker && hand_is_free worker w.live)
            (Some (moved (Hand worker) t w)))) f.lives
            ∙ ap (λ b. only_if (b && hand_is_free worker w.live) (Some (moved (Hand worker) its w)))
            (ap (λ v. in_queue its.place v) same ∙ f.queued)
            ∙ ap (λ b. only_if b (Some (moved (Hand worker) its w))) room
            ∙ ap (λ (q : rWhereabouts). Some (moved (whereabouts q) its w)) (sym put)

        hands_so : (v : ℕ) → contains nat_eq new.hands v ≡ not (not (in_hand (whereabouts place) v) && hand_is_free v w.live)
        hands_so v =
            hand v ∙ ap (λ b. if nat_eq worker v then true else b) (h.hands v)
            ∙ taken_hand (nat_eq worker v) (hand_is_free v w.live)
            ∙ ap (λ (q : rWhereabouts). not (not (in_hand (whereabouts q) v) && hand_is_free v w.live)) (sym put)

    -- into another's queue
    pub stolen : (worker : ℕ) → place ≡ rQueue worker → (from ≡ worker → ⊥) → new.hands ≡ old.hands
        → (next : World) × (next_world old.job (Steal worker from path.turns.items) w ≡ Some next)
        × Shows (record old { tasks = new.tasks; hands = new.hands }) next
    stolen worker put other same = (to, legal, shows_moved (Steal worker from path.turns.items) so legal hands_so)
      where
        f : Found old w path from k
        f = found from k at queued

        so : (c : Course) (d : TaskProgress) → IsDoing old.job.job c d → IsDoingThere old.job.job (whereabouts place) c d
        so c d x = subst (λ (q : rWhereabouts). IsDoingThere old.job.job (whereabouts q) c d) (sym put) x

        legal : next_world old.job (Steal worker from path.turns.items) w ≡ Some to
        legal =
            ap (λ o. and_then o (λ (t : Live). only_if (in_queue t.place from && not (nat_eq from worker))
            (Some (moved (Queue worker) t w)))) f.lives
            ∙ ap (λ b. only_if (b && not (nat_eq from worker)) (Some (moved (Queue worker) its w))) f.queued
            ∙ ap (λ b. only_if (not b) (Some (moved (Queue worker) its w))) (ne_eqb from worker other)
            ∙ ap (λ (q : rWhereabouts). Some (moved (whereabouts q) its w)) (sym put)

        hands_so : (v : ℕ) → contains nat_eq new.hands v ≡ not (not (in_hand (whereabouts place) v) && hand_is_free v w.live)
        hands_so v =
            ap (λ s. contains nat_eq s v) same ∙ h.hands v
            ∙ ap (λ (q : rWhereabouts). not (not (in_hand (whereabouts q) v) && hand_is_free v w.live)) (sym put)

-- ---- a scope passes
abbrev passing : rWorld → World → Scope → Option World
passing old w =
    let p = program_of old.job.job in
    by_pass old.job.w0 (does p (needs_of p) (budget_of old.job.job).steps old.job.w0) (hands_on p (needs_of p) (budget_of old.job.job).steps old.job.w0) w

same_test : (s : rScope) (book : Scope) → IsBookOf s book
    → (not s.passed && nat_eq s.issued s.returned) ≡ (not book.passed && nat_eq book.issued book.returned)
same_test s book h =
    ap (λ x. not x && nat_eq s.issued s.returned) h.passed
    ∙ ap (λ n. not book.passed && nat_eq n s.returned) h.issued
    ∙ ap (λ n. not book.passed && nat_eq book.issued n) h.returned

-- it keeps its results
still_results : (rs : _) (book : Scope) → AreResultsOf rs book → AreResultsOf rs (record book { passed = true })
still_results None book h = refl
still_results (Some rs) book h = h

module _ (old : rWorld) (w : World) (h : Shows old w) (id : rScopeId) where
  -- a scope that may pass
  module _ (s : rScope) (at : get is_scope old.scopes id ≡ Some s) (complete : (not s.passed && nat_eq s.issued s.returned) ≡ true) where
    pub passing_book : (x : Scope) × (scope (scope_id id) w.scopes ≡ Some x) × IsBookOf s x
    passing_book = there IsBookOf s (get is_scope old.scopes id) (scope (scope_id id) w.scopes) (h.scopes id) at

    abbrev pub passed_book : Scope
    passed_book = record passing_book.0 { passed = true }

    abbrev pub passed_world : World
    passed_world = record w { scopes = put_scope passed_book w.scopes }

    pub pass_legal : next_world old.job (Pass (scope_id id)) w ≡ Some passed_world
    pass_legal =
        ap (λ o. and_then o (passing old w)) passing_book.1
        ∙ ap (λ x. only_if x (Some passed_world)) (sym (same_test s passing_book.0 passing_book.2) ∙ complete)

    pub pass_led : LeadsTo (program_of old.job.job) old.job.w0 (lists_of old.job.job) (budget_of old.job.job) (h.events ++ Pass (scope_id id) ∷ [])
        passed_world
    pass_led =
        led_on (program_of old.job.job) old.job.w0 (lists_of old.job.job) (budget_of old.job.job) (Pass (scope_id id)) h.events w passed_world h.led
        pass_legal

    its_name : passed_book.id ≡ scope_id id
    its_name = named_so (scope_id id) w.scopes passing_book.0 passing_book.1

    found_so : scope passed_book.id w.scopes ≡ Some passing_book.0
    found_so = ap (λ i. scope i w.scopes) its_name ∙ passing_book.1

    -- it exists, and has passed
    pub passed_there : scope (scope_id id) passed_world.scopes ≡ Some passed_book
    passed_there =
        scope-put_scope passed_book passing_book.0 (scope_id id) w.scopes found_so
        ∙ ap (λ (b : Bool). if b then Some passed_book else scope (scope_id id) w.scopes) (scope_is its_name)

    -- a scope other than the root's
    pub passed_elsewhere : (scope_id id ≡ root_scope → ⊥) → has_passed root_scope passed_world ≡ has_passed root_scope w
    passed_elsewhere other =
        passed_beside passed_book passing_book.0 root_scope w.scopes found_so (λ e. other (sym its_name ∙ e))

    pub passes : (scopes : _)
        → ((q : rScopeId) → get is_scope scopes q ≡ (if is_scope id q then Some (record s { passed = true }) else get is_scope old.scopes q))
        → (told : _) → IsTold old.job.job (has_passed root_scope passed_world) told
        → (next : World) × (next_world old.job (Pass (scope_id id)) w ≡ Some next) × Shows (record old { scopes = scopes; told = told }) next
    passes scopes each told is_told = (
      passed_world,
      pass_legal,
      record {
        events = h.events ++ Pass (scope_id id) ∷ [];
        led = pass_led;
        tasks = h.tasks;
        paths = h.paths;
        scopes = scopes_put (get is_scope old.scopes) (get is_scope scopes) id (record s { passed = true }) passing_book.0 passed_book w.scopes
            h.scopes passing_book.1 its_name
            (record {
              issued = passing_book.2.issued;
              returned = passing_book.2.returned;
              passed = refl;
              results = still_results s.results passing_book.0 passing_book.2.results;
              faults = passing_book.2.faults;
            })
            each;
        hands = h.hands;
        told = is_told;
      },
    )

    -- a finish's scope
    pub passes_beside : (scopes : _)
        → ((q : rScopeId) → get is_scope scopes q ≡ (if is_scope id q then Some (record s { passed = true }) else get is_scope old.scopes q))
        → (scope_id id ≡ root_scope → ⊥)
        → (next : World) × (next_world old.job (Pass (scope_id id)) w ≡ Some next) × Shows (record old { scopes = scopes }) next
    passes_beside scopes each other =
        passes scopes each old.told (subst (λ b. IsTold old.job.job b old.told) (sym (passed_elsewhere other)) h.told)
