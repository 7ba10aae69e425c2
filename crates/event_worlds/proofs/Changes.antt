-- The changes by each legal event.
use Rattle.std.proofs.Common.{◌≡◌, ℕ, ◌+◌, ◌-◌, ◌/◌, ◌≤◌, List, [], ◌∷◌, ◌++◌, Option, Some, None, refl, inl, inr}
use Rattle.std.proofs.lemmas.Bool.{eqb-true, leb-true, eq-eqb, and_parts, not-true}
use Rattle.std.specs.Prelude.{Bool, true, false, ◌⊎◌, ◌&&◌, not, nat_eq}
use Rattle.std.proofs.lemmas.Option.{none-some, same_Some}
use Rattle.shared_lemmas.proofs.Truths.{false_true}
use Rattle.task_run.specs.Results.{TaskResult, and_then}
use Rattle.task_run.specs.OwnRun.{Start, Action, Step, Spawn, EnterFinish, EndFinish, EndTask}
use Rattle.task_run.proofs.SettledResults.{Gives, gives}
use Rattle.event_worlds.specs.World.{same_path, ScopeId, Stake, Live, Scope, World, Whereabouts, Queue, Hand, Parked}
use Rattle.event_worlds.specs.World.{task, put_task, without_task, scope, put_scope, in_queue, hand_of, is_parked}
use Rattle.event_worlds.specs.World.{child_path}
use Rattle.event_worlds.specs.Events.{only_if, moved, Event, Take, Steal, Steps, Replenish, Spawns, Opens, Parks, Ends}
use Rattle.event_worlds.specs.Events.{Pass, Resume, issue, give_back, did, new_scope, new_task, next_action, by_step}
use Rattle.event_worlds.specs.Events.{by_replenish, by_spawn, by_open, by_park, by_end, with_next, in_innermost}
use Rattle.event_worlds.specs.Events.{by_resume, next}
use Rattle.event_worlds.proofs.Lookups.{holds, task_path, scope_id}

-- the live task of a path
pub record IsLive (path : List ℕ) (a : World) : Type 0 where
  pub was : Live
  pub found : task path a.live ≡ Some was
  pub named : was.path ≡ path

abbrev pub is_live : (path : List ℕ) (a : World) (was : Live) → task path a.live ≡ Some was → IsLive path a
is_live path a was found = record { was = was; found = found; named = task_path path a.live was found }

-- a task changes, but its spawned tasks, its scopes and its weights stay the same, and it isn't
-- parked
pub record IsQuiet (does : Live → Option Action) (path : List ℕ) (a b : World) : Type 0 where
  pub its : IsLive path a
  pub open its use *
  pub to : Live
  pub renamed : to.path ≡ was.path
  pub spawned : to.spawned ≡ was.spawned
  pub opened : to.opened ≡ was.opened
  pub stakes : to.stakes ≡ was.stakes
  pub start : to.start ≡ was.start
  pub receipts : to.receipts ≡ was.receipts
  pub way : (to.done ≡ was.done) ⊎ ((does was ≡ Some Step) × (to.done ≡ was.done + 1))
  pub was_awake : is_parked was.place ≡ false
  pub awake : is_parked to.place ≡ false
  pub now : record a { live = put_task to a.live } ≡ b

-- a task in a hand, and its innermost scope
pub record IsAt (path : List ℕ) (a : World) : Type 0 where
  pub its : IsLive path a
  pub open its use *
  pub worker : ℕ
  pub inner : Stake
  pub outer : List Stake
  pub hand : hand_of was.place ≡ Some worker
  pub awake : is_parked was.place ≡ false
  pub stakes : was.stakes ≡ inner ∷ outer

-- the scope of a task's stake
pub record IsIn (a : World) (s : Stake) : Type 0 where
  pub book : Scope
  pub found : scope s.scope a.scopes ≡ Some book
  pub id : book.id ≡ s.scope

pub record IsReplenish (w0 : ℕ) (path : List ℕ) (a b : World) : Type 0 where
  pub at : IsAt path a
  pub of : IsIn a at.inner
  pub one : at.inner.weight ≡ 1
  pub now : record {
    live = put_task (record at.was { stakes = record at.inner { weight = 1 + w0 } ∷ at.outer }) a.live;
    scopes = put_scope (issue w0 of.book) a.scopes;
  } ≡ b

pub record IsSpawn (does : Live → Option Action) (path : List ℕ) (a b : World) : Type 0 where
  pub at : IsAt path a
  pub child : Start
  pub next : does at.was ≡ Some (Spawn child)
  pub two : 2 ≤ at.inner.weight
  pub now : record a {
    live = new_task (child_path at.was.path (at.was.spawned + 1)) child (record at.inner { weight = at.inner.weight / 2 }) at.worker
        ∷ put_task (record (did at.was (record at.inner { weight = at.inner.weight - at.inner.weight / 2 } ∷ at.outer)) { spawned = at.was.spawned + 1 }) a.live;
  } ≡ b

pub record IsOpen (does : Live → Option Action) (w0 : ℕ) (path : List ℕ) (a b : World) : Type 0 where
  pub its : IsLive path a
  pub open its use *
  pub awake : is_parked was.place ≡ false
  pub next : does was ≡ Some EnterFinish
  pub now :
      (let id : ScopeId = record { owner = was.path; number = was.opened + 1 } in
      let b : World = record {
        live = put_task (record (did was (record { scope = id; weight = w0 } ∷ was.stakes)) { opened = was.opened + 1 }) a.live;
        scopes = new_scope id w0 ∷ a.scopes;
      } in b) ≡ b

pub record IsPark (does : Live → Option Action) (path : List ℕ) (a b : World) : Type 0 where
  pub at : IsAt path a
  pub of : IsIn a at.inner
  pub own : same_path at.was.path at.inner.scope.owner ≡ true
  pub next : does at.was ≡ Some EndFinish
  pub now : record {
    live = put_task (record (did at.was (record at.inner { weight = 0 } ∷ at.outer)) { place = Parked }) a.live;
    scopes = put_scope (give_back at.inner.weight [] of.book) a.scopes;
  } ≡ b

pub record IsEnd (does : Live → Option Action) (gives : Live → TaskResult) (path : List ℕ) (a b : World) : Type 0 where
  pub at : IsAt path a
  pub of : IsIn a at.inner
  pub own : same_path at.was.path at.inner.scope.owner ≡ false
  pub next : does at.was ≡ Some EndTask
  pub now : record {
    live = without_task at.was.path a.live;
    scopes = put_scope (give_back at.inner.weight (gives at.was ∷ []) of.book) a.scopes;
  } ≡ b

pub record IsPass (id : ScopeId) (a b : World) : Type 0 where
  pub book : Scope
  pub found : scope id a.scopes ≡ Some book
  pub same : book.id ≡ id
  pub all_back : book.issued ≡ book.returned
  pub now : record a { scopes = put_scope (record book { passed = true }) a.scopes } ≡ b

pub record IsResume (path : List ℕ) (a b : World) : Type 0 where
  pub its : IsLive path a
  pub open its use *
  pub parked : is_parked was.place ≡ true
  pub worker : ℕ
  pub inner : Stake
  pub next : Stake
  pub outer : List Stake
  pub stakes : was.stakes ≡ inner ∷ next ∷ outer
  pub of : IsIn a inner
  pub passed : of.book.passed ≡ true
  pub now : record a {
    live = put_task (record was { receipts = was.receipts ++ of.book.results ∷ []; stakes = next ∷ outer; place = Hand worker }) a.live;
  } ≡ b

abbrev pub Becomes : (does : Live → Option Action) (gives : Live → TaskResult) (w0 : ℕ) → Event → World → World → Type 0
Becomes does gives w0 (Take w path) a b = IsQuiet does path a b
Becomes does gives w0 (Steal w f path) a b = IsQuiet does path a b
Becomes does gives w0 (Steps path) a b = IsQuiet does path a b
Becomes does gives w0 (Replenish path) a b = IsReplenish w0 path a b
Becomes does gives w0 (Spawns path) a b = IsSpawn does path a b
Becomes does gives w0 (Opens path) a b = IsOpen does w0 path a b
Becomes does gives w0 (Parks path) a b = IsPark does path a b
Becomes does gives w0 (Ends path) a b = IsEnd does gives path a b
Becomes does gives w0 (Pass id) a b = IsPass id a b
Becomes does gives w0 (Resume w path z) a b = IsResume path a b

queue_awake : (q : Whereabouts) (w : ℕ) → in_queue q w ≡ true → is_parked q ≡ false
queue_awake (Queue v) w e = refl
queue_awake (Hand v) w e = absurd (false_true e)
queue_awake Parked w e = absurd (false_true e)

pub hand_awake : (q : Whereabouts) (w : ℕ) → hand_of q ≡ Some w → is_parked q ≡ false
hand_awake (Queue v) w e = absurd (none-some _ e)
hand_awake (Hand v) w e = refl
hand_awake Parked w e = absurd (none-some _ e)

module _ (w0 : ℕ) (actions : Start → List (List TaskResult) → List Action) (result : Start → List (List TaskResult) → TaskResult) where
  abbrev nx : Event → World → Option World
  nx = next w0 actions result

  abbrev nexts : Live → Option Action
  nexts t = next_action w0 actions result t

  abbrev hands : Live → TaskResult
  hands t = result t.start t.receipts

  -- a task in a hand, with its next action
  pub record InHand (path : List ℕ) (a b : World) (go : Live → Action → Option World) : Type 0 where
    pub was : Live
    pub worker : ℕ
    pub action : Action
    pub found : task path a.live ≡ Some was
    pub hand : hand_of was.place ≡ Some worker
    pub does : next_action w0 actions result was ≡ Some action
    pub goes : go was action ≡ Some b

  pub in_hand : (path : List ℕ) (a b : World) (go : Live → Action → Option World) → with_next w0 actions result path a go ≡ Some b → InHand path a b go
  in_hand path a b go e =
      let g = gives (task path a.live) _ b e in
      let h = gives (hand_of g.one.place) _ b g.next in
      let k = gives (next_action w0 actions result g.one) _ b h.next in
      record { was = g.one; worker = h.one; action = k.one; found = g.first; hand = h.first; does = k.first; goes = k.next }

  abbrev is_in : (a : World) (s : Stake) (r : Scope) → scope s.scope a.scopes ≡ Some r → IsIn a s
  is_in a s r e = record { book = r; found = e; id = scope_id s.scope a.scopes r e }

  -- a task moves to another location, or takes a step
  quiet : (path : List ℕ) (a b : World) (was : Live) (to : Whereabouts) (done : ℕ) → task path a.live ≡ Some was
      → (done ≡ was.done) ⊎ ((nexts was ≡ Some Step) × (done ≡ was.done + 1)) → is_parked was.place ≡ false → is_parked to ≡ false
      → Some (record a { live = put_task (record was { place = to; done = done }) a.live }) ≡ Some b → IsQuiet nexts path a b
  quiet path a b was to done found way was_awake awake now = record {
    its = is_live path a was found;
    to = record was { place = to; done = done };
    renamed = refl;
    spawned = refl;
    opened = refl;
    stakes = refl;
    start = refl;
    receipts = refl;
    way = way;
    was_awake = was_awake;
    awake = awake;
    now = same_Some _ _ now;
  }

  took : (w : ℕ) (path : List ℕ) (a b : World) → nx (Take w path) a ≡ Some b → IsQuiet nexts path a b
  took w path a b e =
      let g = gives (task path a.live) _ b e in
      let h = holds _ _ b g.next in
      quiet path a b g.one (Hand w) g.one.done g.first (inl refl) (queue_awake g.one.place w (and_parts _ _ h.test).0) refl h.gives

  stole : (w f : ℕ) (path : List ℕ) (a b : World) → nx (Steal w f path) a ≡ Some b → IsQuiet nexts path a b
  stole w f path a b e =
      let g = gives (task path a.live) _ b e in
      let h = holds _ _ b g.next in
      quiet path a b g.one (Queue w) g.one.done g.first (inl refl) (queue_awake g.one.place f (and_parts _ _ h.test).0) refl h.gives

  stepped : (path : List ℕ) (a b : World) → nx (Steps path) a ≡ Some b → IsQuiet nexts path a b
  stepped path a b e = by_action h.action h.does h.goes
    where
      h : InHand path a b (λ t. by_step w0 actions result t a)
      h = in_hand path a b (λ t. by_step w0 actions result t a) e

      by_action : (c : Action) → nexts h.was ≡ Some c → by_step w0 actions result h.was a c ≡ Some b → IsQuiet nexts path a b
      by_action Step does_now g =
          let awake = hand_awake h.was.place h.worker h.hand in
          quiet path a b h.was h.was.place (h.was.done + 1) h.found (inr (does_now, refl)) awake awake g
      by_action c d g = absurd (none-some _ g)

  -- a task in a hand does its next action, and has an innermost scope
  abbrev ByAction : (path : List ℕ) (a b : World) → (Live → Stake → List Stake → World → Action → Option World) → Type 0 → Type 0
  ByAction path a b go Is =
      (at : IsAt path a) (c : Action) → nexts at.was ≡ Some c → go at.was at.inner at.outer a c ≡ Some b → Is

  within : (path : List ℕ) (a b : World) (go : Live → Stake → List Stake → World → Action → Option World) (Is : Type 0)
      → ByAction path a b go Is
      → with_next w0 actions result path a (λ t c. in_innermost w0 actions result t.stakes (λ s outer. go t s outer a c)) ≡ Some b
      → Is
  within path a b go Is by_action e = by_stakes h.was.stakes refl h.goes
    where
      h : InHand path a b (λ t c. in_innermost w0 actions result t.stakes (λ s outer. go t s outer a c))
      h = in_hand path a b (λ t c. in_innermost w0 actions result t.stakes (λ s outer. go t s outer a c)) e

      by_stakes : (stakes : List Stake) → h.was.stakes ≡ stakes
          → in_innermost w0 actions result stakes (λ s outer. go h.was s outer a h.action) ≡ Some b → Is
      by_stakes [] are g = absurd (none-some _ g)
      by_stakes (s ∷ outer) are g =
          let at : IsAt path a = record {
            its = is_live path a h.was h.found;
            worker = h.worker;
            inner = s;
            outer = outer;
            hand = h.hand;
            awake = hand_awake h.was.place h.worker h.hand;
            stakes = are;
          } in
          by_action at h.action h.does g

  replenished : (path : List ℕ) (a b : World) → nx (Replenish path) a ≡ Some b → IsReplenish w0 path a b
  replenished path a b = within path a b (by_replenish w0 actions result) (IsReplenish w0 path a b) by_action
    where
      by_action : ByAction path a b (by_replenish w0 actions result) (IsReplenish w0 path a b)
      by_action at (Spawn c) d g =
          let r = gives (scope at.inner.scope a.scopes) _ b g in
          let t = holds _ _ b r.next in
          record { at = at; of = is_in a at.inner r.one r.first; one = eqb-true at.inner.weight 1 (and_parts _ _ t.test).0; now = same_Some _ _ t.gives }
      by_action at c d g = absurd (none-some _ g)

  spawned : (path : List ℕ) (a b : World) → nx (Spawns path) a ≡ Some b → IsSpawn nexts path a b
  spawned path a b = within path a b (by_spawn w0 actions result) (IsSpawn nexts path a b) by_action
    where
      by_action : ByAction path a b (by_spawn w0 actions result) (IsSpawn nexts path a b)
      by_action at (Spawn c) d g =
          let r = gives (hand_of at.was.place) _ b g in
          let t = holds _ _ b r.next in
          record {
            at = record at { worker = r.one; hand = r.first };
            child = c;
            next = d;
            two = leb-true 2 at.inner.weight t.test;
            now = same_Some _ _ t.gives;
          }
      by_action at c d g = absurd (none-some _ g)

  opens : (path : List ℕ) (a b : World) → nx (Opens path) a ≡ Some b → IsOpen nexts w0 path a b
  opens path a b e = by_action h.action h.does h.goes
    where
      h : InHand path a b (λ t. by_open w0 actions result t a)
      h = in_hand path a b (λ t. by_open w0 actions result t a) e

      by_action : (c : Action) → nexts h.was ≡ Some c → by_open w0 actions result h.was a c ≡ Some b → IsOpen nexts w0 path a b
      by_action EnterFinish d g =
          record { its = is_live path a h.was h.found; awake = hand_awake h.was.place h.worker h.hand; next = d; now = same_Some _ _ g }
      by_action c d g = absurd (none-some _ g)

  parks : (path : List ℕ) (a b : World) → nx (Parks path) a ≡ Some b → IsPark nexts path a b
  parks path a b = within path a b (by_park w0 actions result) (IsPark nexts path a b) by_action
    where
      by_action : ByAction path a b (by_park w0 actions result) (IsPark nexts path a b)
      by_action at EndFinish d g =
          let r = gives (scope at.inner.scope a.scopes) _ b g in
          let t = holds _ _ b r.next in
          record { at = at; of = is_in a at.inner r.one r.first; own = t.test; next = d; now = same_Some _ _ t.gives }
      by_action at c d g = absurd (none-some _ g)

  ends : (path : List ℕ) (a b : World) → nx (Ends path) a ≡ Some b → IsEnd nexts hands path a b
  ends path a b = within path a b (by_end w0 actions result) (IsEnd nexts hands path a b) by_action
    where
      by_action : ByAction path a b (by_end w0 actions result) (IsEnd nexts hands path a b)
      by_action at EndTask d g =
          let r = gives (scope at.inner.scope a.scopes) _ b g in
          let t = holds _ _ b r.next in
          record { at = at; of = is_in a at.inner r.one r.first; own = not-true _ t.test; next = d; now = same_Some _ _ t.gives }
      by_action at c d g = absurd (none-some _ g)

  passes : (id : ScopeId) (a b : World) → nx (Pass id) a ≡ Some b → IsPass id a b
  passes id a b e =
      let g = gives (scope id a.scopes) _ b e in
      let t = holds _ _ b g.next in
      record { book = g.one; found = g.first; same = scope_id id a.scopes g.one g.first; all_back = eqb-true g.one.issued g.one.returned (and_parts _ _ t.test).1; now = same_Some _ _ t.gives }

  resumes : (w : ℕ) (path : List ℕ) (z : Option ℕ) (a b : World) → nx (Resume w path z) a ≡ Some b → IsResume path a b
  resumes w path z a b e = by_stakes g.one.stakes refl g.next
    where
      g : Gives (task path a.live) (λ t. by_resume w0 actions result w t a t.stakes) b
      g = gives (task path a.live) _ b e

      by_stakes : (ss : List Stake) → g.one.stakes ≡ ss → by_resume w0 actions result w g.one a ss ≡ Some b → IsResume path a b
      by_stakes [] s h = absurd (none-some _ h)
      by_stakes (x ∷ []) s h = absurd (none-some _ h)
      by_stakes (x ∷ y ∷ more) s h =
          let r = gives (scope x.scope a.scopes) _ b h in
          let t = holds _ _ b r.next in
          let k = and_parts _ _ t.test in
          record {
            its = is_live path a g.one g.first;
            parked = k.0;
            worker = w;
            inner = x;
            next = y;
            outer = more;
            stakes = s;
            of = is_in a x r.one r.first;
            passed = (and_parts _ _ k.1).0;
            now = same_Some _ _ t.gives;
          }

  -- each legal event is one of these
  pub becomes : (e : Event) (a b : World) → nx e a ≡ Some b → Becomes nexts hands w0 e a b
  becomes (Take w path) a b e = took w path a b e
  becomes (Steal w f path) a b e = stole w f path a b e
  becomes (Steps path) a b e = stepped path a b e
  becomes (Replenish path) a b e = replenished path a b e
  becomes (Spawns path) a b e = spawned path a b e
  becomes (Opens path) a b e = opens path a b e
  becomes (Parks path) a b e = parks path a b e
  becomes (Ends path) a b e = ends path a b e
  becomes (Pass id) a b e = passes id a b e
  becomes (Resume w path z) a b e = resumes w path z a b e

  -- stealing from oneself isn't legal
  pub steals_from_others : (v : ℕ) (path : List ℕ) (a : World) → nx (Steal v v path) a ≡ None
  steals_from_others v path a = by_task (task path a.live)
    where
      refused : (x y : Bool) (o : Option World) → y ≡ true → only_if (x && not y) o ≡ None
      refused true true o e = refl
      refused false true o e = refl
      refused x false o e = absurd (false_true e)

      by_task : (o : Option Live)
          → and_then o (λ t. only_if (in_queue t.place v && not (nat_eq v v)) (Some (moved (Queue v) t a))) ≡ None
      by_task None = refl
      by_task (Some t) = refused (in_queue t.place v) (nat_eq v v) (Some (moved (Queue v) t a)) (eq-eqb v v refl)
