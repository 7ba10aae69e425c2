-- For any measure of results: what a scope holds, and what the tasks spawned in it are worth, is
-- together the worth of what was spawned for it.
use Rattle.std.proofs.Common.{◌≡◌, ℕ, zero, suc, ◌+◌, ◌-◌, ◌/◌, ◌<◌, ◌≤◌, List, [], ◌∷◌, ◌++◌, length, Some}
use Rattle.std.proofs.Common.{None, refl, sym, ap, ◌∙◌, subst, inl, inr, arith}
use Rattle.std.proofs.lemmas.Option.{none-some, same_Some}
use Rattle.std.proofs.lemmas.List.{append-nil}
use Rattle.std.proofs.lemmas.List.Sums.{sum_by-cons, sum_by_push}
use Rattle.std.specs.Prelude.{Bool, true, false, ◌⊎◌, map, take, sum_by, Contains, if◌then◌else◌}
use Rattle.shared_lemmas.proofs.Truths.{false_true}
use Rattle.types.specs.Code.{Codes, Program}
use Rattle.effects.specs.Needs.{Needs}
use Rattle.task_run.specs.Results.{TaskResult}
use Rattle.task_run.specs.Lists.{Each}
use Rattle.task_run.specs.OwnRun.{Start, Action, Step, Spawn, EnterFinish, EndFinish, EndTask, result_of}
use Rattle.task_run.specs.Given.{own}
use Rattle.task_run.proofs.Lists.{same_end}
use Rattle.task_run.proofs.SettledResults.{paths_same}
use Rattle.event_worlds.specs.World.{ScopeId, Stake, Live, Scope, World, Whereabouts, Queue, Hand, Parked, same_path}
use Rattle.event_worlds.specs.World.{same_scope, root_scope, child_path, task, put_task, without_task, scope, put_scope}
use Rattle.event_worlds.specs.World.{is_parked, weight_in, held}
use Rattle.event_worlds.specs.Events.{Event, issue, give_back, did, new_task, new_scope}
use Rattle.event_worlds.specs.History.{told}
use Rattle.event_worlds.proofs.Lookups.{by_test, path_not, other_path, scope_is, scopes_same, other_scope}
use Rattle.event_worlds.proofs.Lookups.{task-without_task, gone-without_task, unique-without_task, held_least}
use Rattle.event_worlds.proofs.Lookups.{task_path, each_task, Unique}
use Rattle.event_worlds.proofs.Histories.{contains_nil, contains_here, contains_later, contains_cons, nil_snoc}
use Rattle.event_worlds.proofs.Stakes.{scope_of, own as own_scope, Weighty, positive_in}
use Rattle.event_worlds.proofs.Changes.{IsQuiet, IsReplenish, IsSpawn, IsOpen, IsPark, IsEnd, IsPass, IsResume}
use Rattle.event_worlds.proofs.Kept.{base, Hangs, IsKnown, Kept, base_weighs}
use Rattle.event_worlds.proofs.Steps.{put_cases}
use Rattle.event_worlds.proofs.Events.{rebooked}
use Rattle.event_worlds.proofs.Scopes.{Lone, lone}
use Rattle.event_worlds.proofs.Once.{root_stays}
use Rattle.event_worlds.proofs.Levels.{depth}
use Rattle.event_worlds.proofs.Direct.{start_of}
use Rattle.event_worlds.proofs.OwnTasks.{IsOwnTask, AllOwn, IsAtLevel, truly, nexts, hands, more_done, ends_in_truth}
use Rattle.event_worlds.proofs.OwnTasks.{at_level}
use Rattle.event_worlds.proofs.GoingOn.{each_of}
use Rattle.event_worlds.proofs.Pending.{spawned, spawned-append}
use Rattle.event_worlds.proofs.Worth.{sum_by-each_zero, sum_by-put_task, sum_by-without_task}

-- ---- lists
-- if only one task counts
pub sum_by-one : (g : Live → ℕ) (path : List ℕ) (t : Live) (ts : List Live) → Unique ts → task path ts ≡ Some t
    → ((q : List ℕ) (u : Live) → task q ts ≡ Some u → (path ≡ q → ⊥) → g u ≡ 0) → sum_by g ts ≡ g t
sum_by-one g path t ts unique e h =
    let a = sum_by-without_task g path t ts e in
    let b = sum_by-each_zero g (without_task path ts) (each_of (λ u. g u ≡ 0) (without_task path ts) (unique-without_task path ts unique) others) in
    omega (arith, a, b)
  where
    others : (q : List ℕ) (u : Live) → task q (without_task path ts) ≡ Some u → g u ≡ 0
    others q u f =
        by_test (λ x. g u ≡ 0) (same_path path q)
        (λ i. absurd (none-some _ (sym (gone-without_task path ts unique) ∙ ap (λ r. task r (without_task path ts)) (paths_same path q i) ∙ f)))
        (λ i. h q u (sym (task-without_task path q ts (other_path i)) ∙ f) (other_path i))

-- a list of open scopes is as long as the depth
spawned_deep : (xs : List Action) (d e : ℕ) (css : List (List Start)) → depth d xs ≡ Some e → length css ≡ d + 1
    → length (spawned css xs) ≡ e + 1
spawned_deep [] d e css h l = let same : d ≡ e = same_Some _ _ h in omega (arith, same, l)
spawned_deep (Step ∷ xs) d e css h l = spawned_deep xs d e css h l
spawned_deep (Spawn c ∷ xs) d e [] h l = absurd (omega (arith, l))
spawned_deep (Spawn c ∷ xs) d e (cs ∷ css) h l = spawned_deep xs d e ((cs ++ c ∷ []) ∷ css) h l
spawned_deep (EnterFinish ∷ xs) d e css h l = spawned_deep xs (suc d) e ([] ∷ css) h (omega (arith, l))
spawned_deep (EndFinish ∷ xs) zero e css h l = absurd (none-some _ h)
spawned_deep (EndFinish ∷ xs) (suc d) e [] h l = absurd (omega (arith, l))
spawned_deep (EndFinish ∷ xs) (suc d) e (cs ∷ css) h l = spawned_deep xs d e css h (omega (arith, l))
spawned_deep (EndTask ∷ xs) d e css h l = absurd (none-some _ h)

-- whether the last scope is this one
abbrev pub based : ScopeId → List ScopeId → Bool
based id [] = false
based id (x ∷ []) = same_scope x id
based id (x ∷ y ∷ more) = based id (y ∷ more)

based_last : (id : ScopeId) (xs : List ScopeId) → based id xs ≡ true → (ys : List ScopeId) × (xs ≡ ys ++ id ∷ [])
based_last id [] e = absurd (false_true e)
based_last id (x ∷ []) e = ([], ap (λ i. i ∷ []) (scopes_same x id e))
based_last id (x ∷ y ∷ more) e = let h = based_last id (y ∷ more) e in (x ∷ h.0, ap (λ l. x ∷ l) h.1)

based_in : (id : ScopeId) (xs : List ScopeId) → based id xs ≡ true → Contains xs id
based_in id [] e = absurd (false_true e)
based_in id (x ∷ []) e = subst (Contains (x ∷ [])) (scopes_same x id e) (contains_here x [])
based_in id (x ∷ y ∷ more) e = contains_later x (y ∷ more) id (based_in id (y ∷ more) e)

not_based : (id : ScopeId) (xs : List ScopeId) → (Contains xs id → ⊥) → based id xs ≡ false
not_based id xs n = by_test (λ b. based id xs ≡ b → b ≡ false) (based id xs) (λ f e. absurd (n (based_in id xs e))) (λ f e. refl) refl

-- the owner of a scope is the only task that can be in it without weight
pub stands_owner : (w : Whereabouts) (q : List ℕ) (ss : List Stake) (id : ScopeId) → Weighty w q ss → Contains (map scope_of ss) id
    → weight_in id ss ≡ 0 → id.owner ≡ q
stands_owner (Queue w) q ss id h c z = absurd (let a = positive_in id ss h c in omega (arith, a, z))
stands_owner (Hand w) q ss id h c z = absurd (let a = positive_in id ss h c in omega (arith, a, z))
stands_owner Parked q [] id h c z = absurd h
stands_owner Parked q (s ∷ ss) id h c z = by_place (contains_cons s.scope (map scope_of ss) id c)
  where
    by_place : (s.scope ≡ id) ⊎ Contains (map scope_of ss) id → id.owner ≡ q
    by_place (inl e) = ap (λ (i : ScopeId). i.owner) (sym e) ∙ h.1
    by_place (inr d) = absurd (let a = positive_in id ss h.2 d in omega (arith, a, z))

-- a scope that no event has opened
no_scope : (es : List Event) (id : ScopeId) (ss : List Stake) → Each (IsKnown es) ss → (told es id.owner).opened < id.number
    → Contains (map scope_of ss) id → ⊥
no_scope es id [] h lt c = contains_nil id c
no_scope es id (s ∷ ss) h lt c = by_place (contains_cons s.scope (map scope_of ss) id c) (no_scope es id ss h.1 lt)
  where
    by_place : (s.scope ≡ id) ⊎ Contains (map scope_of ss) id → (Contains (map scope_of ss) id → ⊥) → ⊥
    by_place (inr d) rec = rec d
    by_place (inl e) rec =
        let a : s.scope.number ≤ (told es s.scope.owner).opened = h.0 in
        let b : s.scope.number ≡ id.number = ap (λ (i : ScopeId). i.number) e in
        let c : (told es s.scope.owner).opened ≡ (told es id.owner).opened = ap (λ (i : ScopeId). (told es i.owner).opened) e in
        omega (arith, a, b, c, lt)

-- a live task is in a scope
pub record Somebody (ts : List Live) (id : ScopeId) : Type 0 where
  pub path : List ℕ
  pub its : Live
  pub lives : task path ts ≡ Some its
  pub here : Contains (map scope_of its.stakes) id

module _ (p : Program) (needs : Codes → Needs) (fresh w0 : ℕ) (root : Start) (nameless : root.path ≡ []) (worth : Start → ℕ)
    (f : TaskResult → ℕ)
    (all_of : (c : Start) → worth c ≡ f (result_of (own p needs fresh c)) + sum_by worth (map start_of (own p needs fresh c).extra.pending)) where
  abbrev truth : Start → List Action
  truth s = truly p needs fresh w0 root nameless s

  -- the number of its actions when it last had its innermost scope open
  abbrev pub prior : Whereabouts → ℕ → ℕ
  prior Parked n = n - 1
  prior (Queue w) n = n
  prior (Hand w) n = n

  pub prior_awake : (w : Whereabouts) (n : ℕ) → is_parked w ≡ false → prior w n ≡ n
  prior_awake (Queue w) n e = refl
  prior_awake (Hand w) n e = refl
  prior_awake Parked n e = absurd (false_true (sym e))

  -- what a task has spawned in each scope that it is in
  pub open_in : Live → List (List Start)
  open_in t = spawned ([] ∷ []) (take (prior t.place t.done) (truth t.start))

  pub open_is : (t : Live) → open_in t ≡ spawned ([] ∷ []) (take (prior t.place t.done) (truth t.start))
  unfolding open_in
  open_is t = refl

  open_awake : (t : Live) → is_parked t.place ≡ false → open_in t ≡ spawned ([] ∷ []) (take t.done (truth t.start))
  open_awake t e = open_is t ∙ ap (λ n. spawned ([] ∷ []) (take n (truth t.start))) (prior_awake t.place t.done e)

  open_same : (t to : Live) → is_parked t.place ≡ false → is_parked to.place ≡ false → to.start ≡ t.start → to.done ≡ t.done
      → open_in to ≡ open_in t
  open_same t to a b s d =
      open_awake to b ∙ ap (λ x. spawned ([] ∷ []) (take to.done (truth x))) s
      ∙ ap (λ n. spawned ([] ∷ []) (take n (truth t.start))) d ∙ sym (open_awake t a)

  -- with one more action
  open_more : (t to : Live) → IsOwnTask p needs fresh w0 root nameless t → (a : Action) → nexts p needs fresh w0 root nameless t ≡ Some a
      → is_parked t.place ≡ false → is_parked to.place ≡ false → to.start ≡ t.start → to.done ≡ t.done + 1
      → open_in to ≡ spawned (open_in t) (a ∷ [])
  open_more t to its a e x y s d =
      open_awake to y ∙ ap (λ x. spawned ([] ∷ []) (take to.done (truth x))) s
      ∙ ap (λ n. spawned ([] ∷ []) (take n (truth t.start))) d
      ∙ ap (spawned ([] ∷ [])) (more_done p needs fresh w0 root nameless t its a e)
      ∙ spawned-append ([] ∷ []) (take t.done (truth t.start)) (a ∷ [])
      ∙ ap (λ css. spawned css (a ∷ [])) (sym (open_awake t x))

  -- the worth of what is spawned in one scope
  abbrev pub hung : ScopeId → List ScopeId → List (List Start) → ℕ
  hung id [] css = 0
  hung id (x ∷ xs) [] = 0
  hung id (x ∷ xs) (cs ∷ css) = (if same_scope x id then sum_by worth cs else 0) + hung id xs css

  pub not_hung : (id : ScopeId) (xs : List ScopeId) (css : List (List Start)) → (Contains xs id → ⊥) → hung id xs css ≡ 0
  not_hung id [] css n = refl
  not_hung id (x ∷ xs) [] n = refl
  not_hung id (x ∷ xs) (cs ∷ css) n =
      let rest = not_hung id xs css (λ c. n (contains_later x xs id c)) in
      by_test (λ b. same_scope x id ≡ b → (if b then sum_by worth cs else 0) + hung id xs css ≡ 0) (same_scope x id)
      (λ t e. absurd (n (subst (Contains (x ∷ xs)) (scopes_same x id e) (contains_here x xs))))
      (λ t e. omega (arith, rest)) refl

  pub hangs : ScopeId → Live → ℕ
  hangs id t = hung id (map scope_of t.stakes) (open_in t)

  pub hangs_is : (id : ScopeId) (t : Live) → hangs id t ≡ hung id (map scope_of t.stakes) (open_in t)
  unfolding hangs
  hangs_is id t = refl

  -- the worth of a task other than the root that was spawned in a scope
  pub owed : ScopeId → Live → ℕ
  owed id t = if same_path t.path [] then 0 else (if based id (map scope_of t.stakes) then worth t.start else 0)

  pub owed_is : (id : ScopeId) (t : Live) → owed id t
      ≡ (if same_path t.path [] then 0 else (if based id (map scope_of t.stakes) then worth t.start else 0))
  unfolding owed
  owed_is id t = refl

  owed_same : (id : ScopeId) (t to : Live) → to.path ≡ t.path → to.start ≡ t.start
      → based id (map scope_of to.stakes) ≡ based id (map scope_of t.stakes) → owed id to ≡ owed id t
  owed_same id t to a b c =
      owed_is id to
      ∙ ap (λ q. if same_path q [] then 0 else (if based id (map scope_of to.stakes) then worth to.start else 0)) a
      ∙ ap (λ s. if same_path t.path [] then 0 else (if based id (map scope_of to.stakes) then worth s else 0)) b
      ∙ ap (λ (x : Bool). if same_path t.path [] then 0 else (if x then worth t.start else 0)) c ∙ sym (owed_is id t)

  pub not_owed : (id : ScopeId) (t : Live) → based id (map scope_of t.stakes) ≡ false → owed id t ≡ 0
  not_owed id t e =
      owed_is id t ∙ ap (λ (x : Bool). if same_path t.path [] then 0 else (if x then worth t.start else 0)) e ∙ neither (same_path t.path [])
    where
      neither : (b : Bool) → ◌≡◌ {A = ℕ} (if b then 0 else 0) 0
      neither true = refl
      neither false = refl

  owed_other : (id : ScopeId) (t : Live) → (t.path ≡ [] → ⊥) → owed id t ≡ (if based id (map scope_of t.stakes) then worth t.start else 0)
  owed_other id t n =
      owed_is id t ∙ ap (λ (x : Bool). if x then 0 else (if based id (map scope_of t.stakes) then worth t.start else 0)) (path_not t.path [] n)

  abbrev pub Even : ScopeId → Scope → List Live → Type 0
  Even id s ts = sum_by f s.results + sum_by (owed id) ts ≡ sum_by (hangs id) ts

  -- this is true for each scope that some task is in
  abbrev pub AllEven : List Live → List Scope → Type 0
  AllEven ts ss = (id : ScopeId) (s : Scope) → scope id ss ≡ Some s → Somebody ts id → Even id s ts

  -- ---- one scope or one task replaces another
  same_even : (x : ScopeId) (book to : Scope) (ts : List Live) (ss : List Scope) → scope x ss ≡ Some book → to.id ≡ x
      → to.results ≡ book.results → AllEven ts ss → AllEven ts (put_scope to ss)
  same_even x book to ts ss e g same h id s i who = by_place (rebooked x book to ss id s e g i)
    where
      by_place : ((x ≡ id) × (to ≡ s)) ⊎ ((same_scope x id ≡ false) × (scope id ss ≡ Some s)) → Even id s ts
      by_place (inl (u, v)) =
          ap (λ (r : Scope). sum_by f r.results + sum_by (owed id) ts) (sym v) ∙ ap (λ rs. sum_by f rs + sum_by (owed id) ts) same
          ∙ h id book (ap (λ y. scope y ss) (sym u) ∙ e) who
      by_place (inr (u, v)) = h id s v who

  put_one : (id : ScopeId) (s : Scope) (to was : Live) (ts : List Live) → task to.path ts ≡ Some was → owed id to ≡ owed id was
      → hangs id to ≡ hangs id was → Even id s ts → Even id s (put_task to ts)
  put_one id s to was ts e d c h =
      let a = sum_by-put_task (owed id) to was ts e in
      let b = sum_by-put_task (hangs id) to was ts e in
      omega (arith, a, b, c, d, h)

  -- tasks that were in the scope before
  stood : (to was : Live) (path : List ℕ) (ts : List Live) (id : ScopeId) → task path ts ≡ Some was → to.path ≡ path
      → (Contains (map scope_of to.stakes) id → Contains (map scope_of was.stakes) id) → Somebody (put_task to ts) id → Somebody ts id
  stood to was path ts id e g back who = by_place (put_cases to was who.its who.path ts (ap (λ r. task r ts) g ∙ e) who.lives).here
    where
      by_place : ((to.path ≡ who.path) × (to ≡ who.its)) ⊎ ((to.path ≡ who.path → ⊥) × (task who.path ts ≡ Some who.its)) → Somebody ts id
      by_place (inl (i, j)) =
          record { path = path; its = was; lives = e; here = back (subst (λ (t : Live). Contains (map scope_of t.stakes) id) (sym j) who.here) }
      by_place (inr (i, j)) = record { path = who.path; its = who.its; lives = j; here = who.here }

  put_even : (to was : Live) (path : List ℕ) (ts : List Live) (ss : List Scope) → task path ts ≡ Some was → was.path ≡ path
      → to.path ≡ was.path → to.start ≡ was.start → map scope_of to.stakes ≡ map scope_of was.stakes → open_in to ≡ open_in was
      → AllEven ts ss → AllEven (put_task to ts) ss
  put_even to was path ts ss e g n st sc o h id s i who =
      put_one id s to was ts (ap (λ r. task r ts) (n ∙ g) ∙ e)
      (owed_same id was to n st (ap (based id) sc))
      (hangs_is id to ∙ ap (λ xs. hung id xs (open_in to)) sc ∙ ap (hung id (map scope_of was.stakes)) o ∙ sym (hangs_is id was))
      (h id s i (stood to was path ts id e (n ∙ g) (subst (λ xs. Contains xs id) sc) who))

  module _ (es : List Event) (a : World) (k : Kept es a) (o : AllOwn p needs fresh w0 root nameless a) (h : AllEven a.live a.scopes) where
    abbrev Goes : World → Type 0
    Goes w = AllEven w.live w.scopes

    pub quiet_even : (path : List ℕ) (b : World) → IsQuiet (λ t. nexts p needs fresh w0 root nameless t) path a b → Goes b
    quiet_even path b c =
        subst Goes c.now
        (put_even c.to c.was path a.live a.scopes c.found c.named c.renamed c.start (ap (map scope_of) c.stakes) (by_way c.way) h)
      where
        by_way : (c.to.done ≡ c.was.done) ⊎ ((nexts p needs fresh w0 root nameless c.was ≡ Some Step) × (c.to.done ≡ c.was.done + 1))
            → open_in c.to ≡ open_in c.was
        by_way (inl e) = open_same c.was c.to c.was_awake c.awake c.start e
        by_way (inr (e, n)) = open_more c.was c.to (o.tasks path c.was c.found) Step e c.was_awake c.awake c.start n

    pub replenish_even : (path : List ℕ) (b : World) → IsReplenish w0 path a b → Goes b
    replenish_even path b c =
        let to : Live = record c.at.was { stakes = record c.at.inner { weight = 1 + w0 } ∷ c.at.outer } in
        subst Goes c.now
        (same_even c.at.inner.scope c.of.book (issue w0 c.of.book) _ a.scopes c.of.found c.of.id refl
        (put_even to c.at.was path a.live a.scopes c.at.found c.at.named refl refl (ap (map scope_of) (sym c.at.stakes))
        (open_same c.at.was to c.at.awake c.at.awake refl refl) h))

    pub park_even : (path : List ℕ) (b : World) → IsPark (λ t. nexts p needs fresh w0 root nameless t) path a b → Goes b
    park_even path b c =
        let to : Live = record (did c.at.was (record c.at.inner { weight = 0 } ∷ c.at.outer)) { place = Parked } in
        let before : c.at.was.done + 1 - 1 ≡ c.at.was.done = omega arith in
        subst Goes c.now
        (same_even c.at.inner.scope c.of.book (give_back c.at.inner.weight [] c.of.book) _ a.scopes c.of.found c.of.id
        (append-nil c.of.book.results)
        (put_even to c.at.was path a.live a.scopes c.at.found c.at.named refl refl (ap (map scope_of) (sym c.at.stakes))
        (open_is to ∙ ap (λ n. spawned ([] ∷ []) (take n (truth c.at.was.start))) before ∙ sym (open_awake c.at.was c.at.awake)) h))

    pub pass_even : (id : ScopeId) (b : World) → IsPass id a b → Goes b
    pass_even id b c = subst Goes c.now (same_even id c.book (record c.book { passed = true }) a.live a.scopes c.found c.same refl h)

    -- ---- a new scope
    module _ (path : List ℕ) (b : World) (c : IsOpen (λ t. nexts p needs fresh w0 root nameless t) w0 path a b) where
      abbrev new : ScopeId
      new = record { owner = c.was.path; number = c.was.opened + 1 }

      abbrev opener : Live
      opener = record (did c.was (record { scope = new; weight = w0 } ∷ c.was.stakes)) { opened = c.was.opened + 1 }

      found : task opener.path a.live ≡ Some c.was
      found = ap (λ r. task r a.live) c.named ∙ c.found

      is_new : (ss : List Stake) → Each (IsKnown es) ss → Contains (map scope_of ss) new → ⊥
      is_new ss known =
          no_scope es new ss known
          (let x = (k.tasks path c.was c.found).opened in
          let y : (told es c.was.path).opened ≡ (told es path).opened = ap (λ q. (told es q).opened) c.named in
          omega (arith, x, y))

      nobody : (q : List ℕ) (u : Live) → task q a.live ≡ Some u → Contains (map scope_of u.stakes) new → ⊥
      nobody q u e = is_new u.stakes (each_task (λ (t : Live). Each (IsKnown es) t.stakes) q a.live u k.known e)

      opens : open_in opener ≡ [] ∷ open_in c.was
      opens = open_more c.was opener (o.tasks path c.was c.found) EnterFinish c.next c.awake c.awake refl refl

      more_based : (id : ScopeId) (ss : List Stake) (t : Live) (w : Whereabouts) → IsAtLevel p needs fresh w0 root nameless w ss t
          → based id (new ∷ map scope_of ss) ≡ based id (map scope_of ss)
      more_based id [] t w l = absurd l
      more_based id (s ∷ ss) t w l = refl

      owed_still : (id : ScopeId) → owed id opener ≡ owed id c.was
      owed_still id = owed_same id c.was opener refl refl (more_based id c.was.stakes c.was c.was.place (o.tasks path c.was c.found).level)

      hangs_still : (id : ScopeId) → hangs id opener ≡ hangs id c.was
      hangs_still id =
          hangs_is id opener ∙ ap (hung id (new ∷ map scope_of c.was.stakes)) opens ∙ none (same_scope new id) ∙ sym (hangs_is id c.was)
        where
          none : (x : Bool) → (if x then sum_by worth [] else 0) + hung id (map scope_of c.was.stakes) (open_in c.was)
              ≡ hung id (map scope_of c.was.stakes) (open_in c.was)
          none true = omega arith
          none false = omega arith

      at_new : sum_by (owed new) (put_task opener a.live) ≡ 0
      at_new =
          let x = sum_by-put_task (owed new) opener c.was a.live found in
          let y = owed_still new in
          let z = sum_by-each_zero (owed new) a.live (each_of (λ t. owed new t ≡ 0) a.live k.unique
          (λ q u e. not_owed new u (not_based new (map scope_of u.stakes) (nobody q u e)))) in
          omega (arith, x, y, z)

      on_new : sum_by (hangs new) (put_task opener a.live) ≡ 0
      on_new =
          let x = sum_by-put_task (hangs new) opener c.was a.live found in
          let y = hangs_still new in
          let z = sum_by-each_zero (hangs new) a.live (each_of (λ t. hangs new t ≡ 0) a.live k.unique
          (λ q u e. hangs_is new u ∙ not_hung new (map scope_of u.stakes) (open_in u) (nobody q u e))) in
          omega (arith, x, y, z)

      pub open_even : Goes b
      open_even = subst Goes c.now (λ id s e who.
          by_test (λ x. same_scope new id ≡ x → (if x then Some (new_scope new w0) else scope id a.scopes) ≡ Some s → Even id s (put_task opener a.live))
          (same_scope new id)
          (λ t g e. subst (λ i. Even i s (put_task opener a.live)) (scopes_same new id g)
          (subst (λ (r : Scope). Even new r (put_task opener a.live)) (same_Some _ _ e)
          (let x = at_new in let y = on_new in omega (arith, x, y))))
          (λ t g e. put_one id s opener c.was a.live found (owed_still id) (hangs_still id)
          (h id s e (stood opener c.was path a.live id c.found c.named (older id g) who)))
          refl e)
        where
          older : (id : ScopeId) → same_scope new id ≡ false → Contains (new ∷ map scope_of c.was.stakes) id → Contains (map scope_of c.was.stakes) id
          older id g d = by_place (contains_cons new (map scope_of c.was.stakes) id d)
            where
              by_place : (new ≡ id) ⊎ Contains (map scope_of c.was.stakes) id → Contains (map scope_of c.was.stakes) id
              by_place (inl e) = absurd (other_scope g e)
              by_place (inr e) = e

    -- ---- a new task
    module _ (path : List ℕ) (b : World) (c : IsSpawn (λ t. nexts p needs fresh w0 root nameless t) path a b) where
      abbrev kid : Live
      kid = new_task (child_path c.at.was.path (c.at.was.spawned + 1)) c.child (record c.at.inner { weight = c.at.inner.weight / 2 }) c.at.worker

      abbrev parent : Live
      parent = record (did c.at.was (record c.at.inner { weight = c.at.inner.weight - c.at.inner.weight / 2 } ∷ c.at.outer)) { spawned = c.at.was.spawned + 1 }

      scopes_are : map scope_of parent.stakes ≡ map scope_of c.at.was.stakes
      scopes_are = ap (map scope_of) (sym c.at.stakes)

      record Innermost : Type 0 where
        here : List Start
        around : List (List Start)
        are : open_in c.at.was ≡ here ∷ around

      innermost : Innermost
      innermost =
          by_list (open_in c.at.was) refl
          (ap length (open_awake c.at.was c.at.awake)
          ∙ spawned_deep (take c.at.was.done (truth c.at.was.start)) 0 (length c.at.outer) ([] ∷ [])
          (at_level p needs fresh w0 root nameless a o path c.at) refl)
        where
          by_list : (css : List (List Start)) → open_in c.at.was ≡ css → length (open_in c.at.was) ≡ length c.at.outer + 1 → Innermost
          by_list [] e l = let x : length (open_in c.at.was) ≡ 0 = ap length e in absurd (omega (arith, x, l))
          by_list (cs ∷ css) e l = record { here = cs; around = css; are = e }

      opened : open_in parent ≡ (innermost.here ++ c.child ∷ []) ∷ innermost.around
      opened =
          open_more c.at.was parent (o.tasks path c.at.was c.at.found) (Spawn c.child) c.next c.at.awake c.at.awake refl refl
          ∙ ap (λ css. spawned css (Spawn c.child ∷ [])) innermost.are

      one_more : (id : ScopeId) → hangs id parent ≡ hangs id c.at.was + (if same_scope c.at.inner.scope id then worth c.child else 0)
      one_more id =
          hangs_is id parent ∙ ap (hung id (c.at.inner.scope ∷ map scope_of c.at.outer)) opened
          ∙ by_scope (same_scope c.at.inner.scope id)
          ∙ ap (λ css. hung id (c.at.inner.scope ∷ map scope_of c.at.outer) css + (if same_scope c.at.inner.scope id then worth c.child else 0)) (sym innermost.are)
          ∙ ap (λ xs. hung id xs (open_in c.at.was) + (if same_scope c.at.inner.scope id then worth c.child else 0)) scopes_are
          ∙ ap (λ n. n + (if same_scope c.at.inner.scope id then worth c.child else 0)) (sym (hangs_is id c.at.was))
        where
          by_scope : (x : Bool) → (if x then sum_by worth (innermost.here ++ c.child ∷ []) else 0) + hung id (map scope_of c.at.outer) innermost.around
              ≡ ((if x then sum_by worth innermost.here else 0) + hung id (map scope_of c.at.outer) innermost.around) + (if x then worth c.child else 0)
          by_scope true = let l = sum_by_push worth innermost.here c.child in omega (arith, l)
          by_scope false = omega arith

      kid_owed : (id : ScopeId) → owed id kid ≡ (if same_scope c.at.inner.scope id then worth c.child else 0)
      kid_owed id = owed_other id kid (λ e. nil_snoc c.at.was.path (c.at.was.spawned + 1) [] (sym e))

      kid_hangs : (id : ScopeId) → hangs id kid ≡ 0
      kid_hangs id = hangs_is id kid ∙ ap (hung id (c.at.inner.scope ∷ [])) (open_is kid) ∙ none (same_scope c.at.inner.scope id)
        where
          none : (x : Bool) → (if x then sum_by worth [] else 0) + 0 ≡ 0
          none true = refl
          none false = refl

      pub spawn_even : Goes b
      spawn_even = subst Goes c.now (λ id s e who. balance id s (h id s e (before id who)))
        where
          balance : (id : ScopeId) (s : Scope) → Even id s a.live → Even id s (kid ∷ put_task parent a.live)
          balance id s h =
              let e : task parent.path a.live ≡ Some c.at.was = ap (λ r. task r a.live) c.at.named ∙ c.at.found in
              let x = sum_by-put_task (owed id) parent c.at.was a.live e in
              let y = sum_by-put_task (hangs id) parent c.at.was a.live e in
              let z = owed_same id c.at.was parent refl refl (ap (based id) scopes_are) in
              let u = one_more id in
              let v = kid_owed id in
              let w = kid_hangs id in
              let m = sum_by-cons (owed id) kid (put_task parent a.live) in
              let n = sum_by-cons (hangs id) kid (put_task parent a.live) in
              omega (arith, x, y, z, u, v, w, m, n, h)

          before : (id : ScopeId) → Somebody (kid ∷ put_task parent a.live) id → Somebody a.live id
          before id who =
              by_test (λ x. (if x then Some kid else task who.path (put_task parent a.live)) ≡ Some who.its → Somebody a.live id)
              (same_path kid.path who.path)
              (λ t e. record {
                path = path;
                its = c.at.was;
                lives = c.at.found;
                here = subst (λ xs. Contains xs id) scopes_are (of_one (subst (λ (t : Live). Contains (map scope_of t.stakes) id) (sym (same_Some _ _ e)) who.here));
              })
              (λ t e. stood parent c.at.was path a.live id c.at.found c.at.named (subst (λ xs. Contains xs id) scopes_are)
              (record { path = who.path; its = who.its; lives = e; here = who.here }))
              who.lives
            where
              of_one : Contains (c.at.inner.scope ∷ []) id → Contains (c.at.inner.scope ∷ map scope_of c.at.outer) id
              of_one d = by_place (contains_cons c.at.inner.scope [] id d)
                where
                  by_place : (c.at.inner.scope ≡ id) ⊎ Contains [] id → Contains (c.at.inner.scope ∷ map scope_of c.at.outer) id
                  by_place (inl e) = subst (Contains (c.at.inner.scope ∷ map scope_of c.at.outer)) e (contains_here c.at.inner.scope (map scope_of c.at.outer))
                  by_place (inr e) = absurd (contains_nil id e)

    -- ---- the end of a task, whose own run has these children pending
    module _ (path : List ℕ) (b : World)
        (c : IsEnd (λ t. nexts p needs fresh w0 root nameless t) (λ t. hands p needs fresh w0 root nameless t) path a b)
        (all_spawned : open_in c.at.was ≡ map start_of (own p needs fresh c.at.was.start).extra.pending ∷ []) where
      alone : Lone (told es path).inside c.at.outer
      alone = lone path c.at.inner c.at.outer (told es path).inside (k.line path)
          (ap (map scope_of) (sym c.at.stakes) ∙ (k.tasks path c.at.was c.at.found).stakes)
          (ap (λ r. same_path r c.at.inner.scope.owner) (sym c.at.named) ∙ c.own)

      stakes_are : map scope_of c.at.was.stakes ≡ c.at.inner.scope ∷ []
      stakes_are = ap (map scope_of) (c.at.stakes ∙ ap (λ ss. c.at.inner ∷ ss) alone.no_outer)

      its_owed : (id : ScopeId) → owed id c.at.was ≡ (if same_scope c.at.inner.scope id then worth c.at.was.start else 0)
      its_owed id =
          owed_other id c.at.was (λ e. root_stays es a k c (sym c.at.named ∙ e))
          ∙ ap (λ xs. if based id xs then worth c.at.was.start else 0) stakes_are

      its_hangs : (id : ScopeId) → hangs id c.at.was
          ≡ (if same_scope c.at.inner.scope id then sum_by worth (map start_of (own p needs fresh c.at.was.start).extra.pending) else 0) + 0
      its_hangs id = hangs_is id c.at.was ∙ ap (λ xs. hung id xs (open_in c.at.was)) stakes_are ∙ ap (hung id (c.at.inner.scope ∷ [])) all_spawned

      hands_own : result_of (own p needs fresh c.at.was.start) ≡ hands p needs fresh w0 root nameless c.at.was
      hands_own =
          sym (ap result_of (ends_in_truth p needs fresh w0 root nameless c.at.was (o.tasks path c.at.was c.at.found) EndTask (length c.at.outer)
          c.next (at_level p needs fresh w0 root nameless a o path c.at) refl))

      still : (id : ScopeId) → Somebody (without_task c.at.was.path a.live) id → Somebody a.live id
      still id who =
          by_test (λ x. Somebody a.live id) (same_path c.at.was.path who.path)
          (λ e. absurd (none-some _ (sym (gone-without_task c.at.was.path a.live k.unique)
          ∙ ap (λ r. task r (without_task c.at.was.path a.live)) (paths_same c.at.was.path who.path e) ∙ who.lives)))
          (λ e. record {
            path = who.path;
            its = who.its;
            lives = sym (task-without_task c.at.was.path who.path a.live (other_path e)) ∙ who.lives;
            here = who.here;
          })

      pub end_even : Goes b
      end_even = subst Goes c.now (λ id s e who.
          by_place id s who
          (rebooked c.at.inner.scope c.of.book (give_back c.at.inner.weight (hands p needs fresh w0 root nameless c.at.was ∷ []) c.of.book)
          a.scopes id s c.of.found c.of.id e))
        where
          found_it : task c.at.was.path a.live ≡ Some c.at.was
          found_it = ap (λ r. task r a.live) c.at.named ∙ c.at.found

          by_place : (id : ScopeId) (s : Scope) → Somebody (without_task c.at.was.path a.live) id
              → ((c.at.inner.scope ≡ id) × (give_back c.at.inner.weight (hands p needs fresh w0 root nameless c.at.was ∷ []) c.of.book ≡ s))
              ⊎ ((same_scope c.at.inner.scope id ≡ false) × (scope id a.scopes ≡ Some s)) → Even id s (without_task c.at.was.path a.live)
          by_place id s who (inl (u, v)) =
              let x = ap (λ (r : Scope). sum_by f r.results) (sym v) ∙ sum_by_push f c.of.book.results (hands p needs fresh w0 root nameless c.at.was) in
              let y = sum_by-without_task (owed id) c.at.was.path c.at.was a.live found_it in
              let z = sum_by-without_task (hangs id) c.at.was.path c.at.was a.live found_it in
              let m = its_owed id ∙ ap (λ x. if x then worth c.at.was.start else 0) (scope_is u) in
              let n = its_hangs id ∙ ap (λ x. (if x then sum_by worth (map start_of (own p needs fresh c.at.was.start).extra.pending) else 0) + 0) (scope_is u) in
              let g = h id c.of.book (ap (λ i. scope i a.scopes) (sym u) ∙ c.of.found) (still id who) in
              let w = all_of c.at.was.start ∙ ap (λ r. f r + sum_by worth (map start_of (own p needs fresh c.at.was.start).extra.pending)) hands_own in
              omega (arith, x, y, z, m, n, g, w)
          by_place id s who (inr (u, v)) =
              let y = sum_by-without_task (owed id) c.at.was.path c.at.was a.live found_it in
              let z = sum_by-without_task (hangs id) c.at.was.path c.at.was a.live found_it in
              let m = its_owed id ∙ ap (λ x. if x then worth c.at.was.start else 0) u in
              let n = its_hangs id ∙ ap (λ x. (if x then sum_by worth (map start_of (own p needs fresh c.at.was.start).extra.pending) else 0) + 0) u in
              let g = h id s v (still id who) in
              omega (arith, y, z, m, n, g)

    -- ---- a finish that passed
    module _ (path : List ℕ) (b : World) (c : IsResume path a b) (here : List Start) (around : List (List Start))
        (was_open : open_in c.was ≡ here ∷ around) where
      abbrev left : Live
      left = record c.was { receipts = c.was.receipts ++ c.of.book.results ∷ []; stakes = c.next ∷ c.outer; place = Hand c.worker }

      weightless : held c.inner.scope a.live ≡ 0
      weightless =
          let ok = k.scopes c.inner.scope c.of.book c.of.found in
          let x = ok.books in
          let y = ok.passed c.passed in
          omega (arith, x, y)

      none_in : (q : List ℕ) (u : Live) → task q a.live ≡ Some u → weight_in c.inner.scope u.stakes ≡ 0
      none_in q u e = let x = held_least c.inner.scope q u a.live e in let y = weightless in omega (arith, x, y)

      -- only its owner is in it
      owner_of : (q : List ℕ) (u : Live) → task q a.live ≡ Some u → Contains (map scope_of u.stakes) c.inner.scope → c.inner.scope.owner ≡ q
      owner_of q u e d = stands_owner u.place q u.stakes c.inner.scope (k.tasks q u e).weighty d (none_in q u e)

      its_owner : c.inner.scope.owner ≡ path
      its_owner =
          owner_of path c.was c.found
          (subst (λ ss. Contains (map scope_of ss) c.inner.scope) (sym c.stakes) (contains_here c.inner.scope (c.next.scope ∷ map scope_of c.outer)))

      pub others_not : (q : List ℕ) (u : Live) → task q a.live ≡ Some u → (path ≡ q → ⊥) → Contains (map scope_of u.stakes) c.inner.scope → ⊥
      others_not q u e n d = n (sym its_owner ∙ owner_of q u e d)

      outer_not : Contains (map scope_of (c.next ∷ c.outer)) c.inner.scope → ⊥
      outer_not d = by_weights c.was.place c.parked (subst (Weighty c.was.place path) c.stakes (k.tasks path c.was c.found).weighty)
        where
          by_weights : (w : Whereabouts) → is_parked w ≡ true → Weighty w path (c.inner ∷ c.next ∷ c.outer) → ⊥
          by_weights (Queue w) e x = false_true e
          by_weights (Hand w) e x = false_true e
          by_weights Parked e x =
              let y = positive_in c.inner.scope (c.next ∷ c.outer) x.2 d in
              let z : weight_in c.inner.scope c.was.stakes ≡ weight_in c.inner.scope (c.inner ∷ c.next ∷ c.outer) = ap (weight_in c.inner.scope) c.stakes in
              let n = none_in path c.was c.found in
              omega (arith, y, z, n)

      -- none of the tasks spawned in it is still to end
      pub nothing_owed : sum_by (owed c.inner.scope) a.live ≡ 0
      nothing_owed = sum_by-each_zero (owed c.inner.scope) a.live (each_of (λ t. owed c.inner.scope t ≡ 0) a.live k.unique each)
        where
          each : (q : List ℕ) (u : Live) → task q a.live ≡ Some u → owed c.inner.scope u ≡ 0
          each q u e =
              by_test (λ x. based c.inner.scope (map scope_of u.stakes) ≡ x → owed c.inner.scope u ≡ 0) (based c.inner.scope (map scope_of u.stakes))
              (λ t g. by_kind g (k.hangs q u e)) (λ t g. not_owed c.inner.scope u g) refl
            where
              by_kind : based c.inner.scope (map scope_of u.stakes) ≡ true → (q ≡ []) ⊎ Hangs es a.live k.line q → owed c.inner.scope u ≡ 0
              by_kind g (inl r) =
                  owed_is c.inner.scope u
                  ∙ ap (λ q. if same_path q [] then 0 else (if based c.inner.scope (map scope_of u.stakes) then worth u.start else 0))
                  (task_path q a.live u e ∙ r)
              by_kind g (inr r) =
                  let l = based_last c.inner.scope (map scope_of u.stakes) g in
                  let stakes = (k.tasks q u e).stakes ∙ ap (λ l. map (own_scope q) (told es q).inside ++ base l) r.lined in
                  let same = same_end l.0 (map (own_scope q) (told es q).inside) c.inner.scope (own_scope r.owner r.number) (sym l.1 ∙ stakes) in
                  let weighs = base_weighs es a k q u e r in
                  let z : held (own_scope r.owner r.number) a.live ≡ 0 = ap (λ i. held i a.live) (sym same.last) ∙ weightless in
                  absurd (omega (arith, weighs, z))

      -- the worth that depends on it is the worth of what its owner spawned there
      pub all_hangs : sum_by (hangs c.inner.scope) a.live ≡ sum_by worth here
      all_hangs =
          let one = sum_by-one (hangs c.inner.scope) path c.was a.live k.unique c.found
          (λ q u e n. hangs_is c.inner.scope u ∙ not_hung c.inner.scope (map scope_of u.stakes) (open_in u) (others_not q u e n)) in
          let is = hangs_is c.inner.scope c.was ∙ ap (λ ss. hung c.inner.scope (map scope_of ss) (open_in c.was)) c.stakes
          ∙ ap (hung c.inner.scope (c.inner.scope ∷ c.next.scope ∷ map scope_of c.outer)) was_open in
          let rest = not_hung c.inner.scope (c.next.scope ∷ map scope_of c.outer) around outer_not in
          let head : (if same_scope c.inner.scope c.inner.scope then sum_by worth here else 0) ≡ sum_by worth here =
          ap (λ x. if x then sum_by worth here else 0) (scope_is {a = c.inner.scope} refl) in
          omega (arith, one, is, rest, head)

      -- so its results have this worth
      pub results_are : sum_by f c.of.book.results ≡ sum_by worth here
      results_are =
          let e = h c.inner.scope c.of.book c.of.found (record {
            path = path;
            its = c.was;
            lives = c.found;
            here = subst (λ ss. Contains (map scope_of ss) c.inner.scope) (sym c.stakes) (contains_here c.inner.scope (c.next.scope ∷ map scope_of c.outer));
          }) in
          let x = nothing_owed in
          let y = all_hangs in
          omega (arith, e, x, y)

      pub resume_even : open_in left ≡ around → Goes b
      resume_even closed = subst Goes c.now (λ id s e who.
          by_test (λ x. same_scope c.inner.scope id ≡ x → Even id s (put_task left a.live)) (same_scope c.inner.scope id)
          (λ t g. absurd (nobody (subst (Somebody (put_task left a.live)) (sym (scopes_same c.inner.scope id g)) who)))
          (λ t g. put_one id s left c.was a.live (ap (λ r. task r a.live) c.named ∙ c.found)
          (owed_same id c.was left refl refl (ap (λ ss. based id (map scope_of ss)) (sym c.stakes)))
          (hangs_is id left ∙ ap (hung id (c.next.scope ∷ map scope_of c.outer)) closed ∙ passed_by id g
          ∙ ap (hung id (c.inner.scope ∷ c.next.scope ∷ map scope_of c.outer)) (sym was_open)
          ∙ ap (λ ss. hung id (map scope_of ss) (open_in c.was)) (sym c.stakes) ∙ sym (hangs_is id c.was))
          (h id s e (stood left c.was path a.live id c.found c.named (earlier id) who)))
          refl)
        where
          nobody : Somebody (put_task left a.live) c.inner.scope → ⊥
          nobody who = by_place (put_cases left c.was who.its who.path a.live (ap (λ r. task r a.live) c.named ∙ c.found) who.lives).here
            where
              by_place : ((left.path ≡ who.path) × (left ≡ who.its)) ⊎ ((left.path ≡ who.path → ⊥) × (task who.path a.live ≡ Some who.its)) → ⊥
              by_place (inl (i, j)) = outer_not (subst (λ (t : Live). Contains (map scope_of t.stakes) c.inner.scope) (sym j) who.here)
              by_place (inr (i, j)) = others_not who.path who.its j (λ e. i (c.named ∙ e)) who.here

          passed_by : (id : ScopeId) → same_scope c.inner.scope id ≡ false → hung id (c.next.scope ∷ map scope_of c.outer) around
              ≡ hung id (c.inner.scope ∷ c.next.scope ∷ map scope_of c.outer) (here ∷ around)
          passed_by id g =
              let zero_there : (if same_scope c.inner.scope id then sum_by worth here else 0) ≡ 0 =
              ap (λ x. if x then sum_by worth here else 0) g in
              omega (arith, zero_there)

          earlier : (id : ScopeId) → Contains (map scope_of (c.next ∷ c.outer)) id → Contains (map scope_of c.was.stakes) id
          earlier id d =
              subst (λ ss. Contains (map scope_of ss) id) (sym c.stakes) (contains_later c.inner.scope (c.next.scope ∷ map scope_of c.outer) id d)

  -- at the start nothing was spawned
  pub first_even : AllEven (new_task [] root (record { scope = root_scope; weight = w0 }) 0 ∷ []) (new_scope root_scope w0 ∷ [])
  first_even id s e who =
      let t : Live = new_task [] root (record { scope = root_scope; weight = w0 }) 0 in
      let m : owed id t ≡ 0 = owed_is id t in
      let n : hangs id t ≡ 0 = hangs_is id t ∙ ap (hung id (root_scope ∷ [])) (open_is t) ∙ none (same_scope root_scope id) in
      let z = no_results (same_scope root_scope id) e in
      omega (arith, m, n, z)
    where
      none : (x : Bool) → (if x then sum_by worth [] else 0) + 0 ≡ 0
      none true = refl
      none false = refl

      no_results : (x : Bool) → (if x then Some (new_scope root_scope w0) else None) ≡ Some s → sum_by f s.results ≡ 0
      no_results true e = ap (λ (r : Scope). sum_by f r.results) (sym (same_Some _ _ e))
      no_results false e = absurd (none-some _ e)
