-- Each legal event keeps the facts about a world.
use Rattle.std.proofs.Common.{◌≡◌, ℕ, ◌+◌, ◌≤◌, List, [], ◌∷◌, ◌++◌, Some, refl, sym, ap, ◌∙◌, subst, inl, inr, arith}
use Rattle.std.proofs.lemmas.List.Elements.{Contains-append_left, Contains-push}
use Rattle.std.specs.Prelude.{◌⊎◌, Contains, if◌then◌else◌}
use Rattle.std.proofs.lemmas.Option.{same_Some}
use Rattle.task_run.specs.Lists.{Each}
use Rattle.task_run.proofs.SettledResults.{paths_same}
use Rattle.task_run.proofs.Lists.{each_more}
use Rattle.event_worlds.specs.World.{same_path, ScopeId, Stake, Live, Scope, World, task, put_task, scope, held}
use Rattle.event_worlds.specs.Events.{Event, Spawns, Ends}
use Rattle.event_worlds.specs.History.{Told, untold, told, SpawnsAt, Begun}
use Rattle.event_worlds.proofs.Lookups.{by_test, other_path, task-put_task, Unique, unique-put_task, each-put_task}
use Rattle.event_worlds.proofs.Histories.{told_more, still_spawns, spawned_last, BegunLast, begun_last}
use Rattle.event_worlds.proofs.Stakes.{own}
use Rattle.event_worlds.proofs.Kept.{Hangs, IsNamed, IsTold, IsKnown, ScopeOk, Kept, base_weighs}

-- ---- a task replaces itself
pub record IsPut (to : Live) (ts : List Live) (q : List ℕ) (t : Live) : Type 0 where
  pub here : ((to.path ≡ q) × (to ≡ t)) ⊎ ((to.path ≡ q → ⊥) × (task q ts ≡ Some t))

pub put_cases : (to was t : Live) (q : List ℕ) (ts : List Live) → task to.path ts ≡ Some was → task q (put_task to ts) ≡ Some t → IsPut to ts q t
put_cases to was t q ts e f =
    by_test (λ b. (if b then Some to else task q ts) ≡ Some t → IsPut to ts q t) (same_path to.path q)
    (λ g h. record { here = inl (paths_same to.path q g, same_Some _ _ h) })
    (λ g h. record { here = inr (other_path g, h) })
    (sym (task-put_task to was q ts e) ∙ f)

pub put_lives : (to was t : Live) (q : List ℕ) (ts : List Live) → task to.path ts ≡ Some was → task q ts ≡ Some t → (s : Live) × (task q (put_task to ts) ≡ Some s)
put_lives to was t q ts e f =
    by_test (λ b. (task q (put_task to ts) ≡ (if b then Some to else task q ts)) → (s : Live) × (task q (put_task to ts) ≡ Some s)) (same_path to.path q)
    (λ g h. (to, h)) (λ g h. (t, h ∙ f))
    (task-put_task to was q ts e)

-- each live task was live before
pub put_from : (to was t : Live) (q : List ℕ) (ts : List Live) → task to.path ts ≡ Some was → IsPut to ts q t → (s : Live) × (task q ts ≡ Some s)
put_from to was t q ts found h = by_place h.here
  where
    by_place : ((to.path ≡ q) × (to ≡ t)) ⊎ ((to.path ≡ q → ⊥) × (task q ts ≡ Some t)) → (s : Live) × (task q ts ≡ Some s)
    by_place (inl (f, g)) = (was, subst (λ r. task r ts ≡ Some was) f found)
    by_place (inr (f, g)) = (t, g)

-- ---- facts stay true
pub named_still : (es : List Event) (e : Event) (q : List ℕ) → IsNamed es q → IsNamed (es ++ e ∷ []) q
named_still es e q (inl f) = inl f
named_still es e q (inr h) = inr (record { before = h.before; parent = h.parent; at = still_spawns es e h.before h.parent q h.at })

known_still : (es : List Event) (e : Event) (s : Stake) → IsKnown es s → IsKnown (es ++ e ∷ []) s
known_still es e s h = let m = (told_more es e s.scope.owner).opened in omega (arith, h, m)

pub known_more : (es : List Event) (e : Event) (ss : List Stake) → Each (IsKnown es) ss → Each (IsKnown (es ++ e ∷ [])) ss
known_more es e ss = each_more (IsKnown es) (IsKnown (es ++ e ∷ [])) ss (known_still es e)

pub all_known_more : (es : List Event) (e : Event) (ts : List Live) → Each (λ (t : Live). Each (IsKnown es) t.stakes) ts → Each (λ (t : Live). Each (IsKnown (es ++ e ∷ [])) t.stakes) ts
all_known_more es e ts = each_more (λ (t : Live). Each (IsKnown es) t.stakes) (λ (t : Live). Each (IsKnown (es ++ e ∷ [])) t.stakes) ts (λ t. known_more es e t.stakes)

-- a scope that an event leaves unchanged
pub scope_still : (es : List Event) (e : Event) (live to : List Live) (id : ScopeId) (s : Scope) → held id to ≡ held id live → ScopeOk es live id s → ScopeOk (es ++ e ∷ []) to id s
scope_still es e live to id s f h = record {
  books = h.books ∙ ap (λ n. s.returned + n) (sym f);
  passed = h.passed;
  known = let k = h.known in let m = (told_more es e id.owner).opened in omega (arith, k, m);
}

-- an owner that still has a scope open
pub record StillOpen (es : List Event) (live : List Live) (u : List ℕ) (m : ℕ) (low : List ℕ) : Type 0 where
  pub its : Live
  pub lives : task u live ≡ Some its
  pub top : List ℕ
  pub inside : (told es u).inside ≡ top ++ m ∷ low

-- ---- events that spawn nothing
module _ (es : List Event) (e : Event) (a : World) (k : Kept es a) where
  abbrev es' : List Event
  es' = es ++ e ∷ []

  pub record Change (b : World) : Type 0 where
    pub unique : Unique b.live
    pub from : (q : List ℕ) (t : Live) → task q b.live ≡ Some t → (s : Live) × (task q a.live ≡ Some s)
    pub tasks : (q : List ℕ) (t : Live) → task q b.live ≡ Some t → IsTold (told es' q) (k.line q) q t
    pub open' : (u : List ℕ) (m : ℕ) (top low : List ℕ) (t : Live) → task u a.live ≡ Some t → (told es u).inside ≡ top ++ m ∷ low → 1 ≤ held (own u m) a.live → StillOpen es' b.live u m low
    pub known : Each (λ (t : Live). Each (IsKnown es') t.stakes) b.live
    pub scopes : (id : ScopeId) (s : Scope) → scope id b.scopes ≡ Some s → ScopeOk es' b.live id s
    pub quiet : (q : List ℕ) → IsNamed es q ⊎ (told es' q ≡ told es q)
    pub ended : (q : List ℕ) (t : Live) → task q a.live ≡ Some t → ((s : Live) × (task q b.live ≡ Some s)) ⊎ (e ≡ Ends q)

  module _ (no_spawn : (o : List ℕ) → e ≡ Spawns o → ⊥) (b : World) (c : Change b) where
    hangs_still : (q : List ℕ) (t : Live) → task q b.live ≡ Some t → (q ≡ []) ⊎ Hangs es' b.live k.line q
    hangs_still q t f = by_kind (k.hangs q s.0 s.1)
      where
        s : (s : Live) × (task q a.live ≡ Some s)
        s = c.from q t f

        by_kind : (q ≡ []) ⊎ Hangs es a.live k.line q → (q ≡ []) ⊎ Hangs es' b.live k.line q
        by_kind (inl g) = inl g
        by_kind (inr h) =
            let o = c.open' h.owner h.number h.top h.low h.its h.lives h.inside (base_weighs es a k q s.0 s.1 h) in
            inr (record { owner = h.owner; number = h.number; top = o.top; low = h.low; its = o.its; lives = o.lives; inside = o.inside; lined = h.lined; shorter = h.shorter })

    quiet_still : (q : List ℕ) → IsNamed es' q ⊎ (told es' q ≡ untold q)
    quiet_still q = by_kind (k.quiet q) (c.quiet q)
      where
        by_kind : IsNamed es q ⊎ (told es q ≡ untold q) → IsNamed es q ⊎ (told es' q ≡ told es q) → IsNamed es' q ⊎ (told es' q ≡ untold q)
        by_kind (inl h) g = inl (named_still es e q h)
        by_kind (inr h) (inl g) = inl (named_still es e q g)
        by_kind (inr h) (inr g) = inr (g ∙ h)

    spawned_still : (before : List Event) (o q : List ℕ) → SpawnsAt es' before o q → ((t : Live) × (task q b.live ≡ Some t)) ⊎ Contains es' (Ends q)
    spawned_still before o q h = by_place (spawned_last es e before o q h)
      where
        by_end : (t : Live) → ((s : Live) × (task q b.live ≡ Some s)) ⊎ (e ≡ Ends q) → ((t : Live) × (task q b.live ≡ Some t)) ⊎ Contains es' (Ends q)
        by_end t (inl l) = inl l
        by_end t (inr f) = inr (subst (λ x. Contains (es ++ x ∷ []) (Ends q)) (sym f) (Contains-push es (Ends q)))

        by_life : ((t : Live) × (task q a.live ≡ Some t)) ⊎ Contains es (Ends q) → ((t : Live) × (task q b.live ≡ Some t)) ⊎ Contains es' (Ends q)
        by_life (inl (t, f)) = by_end t (c.ended q t f)
        by_life (inr d) = inr (Contains-append_left es (e ∷ []) (Ends q) d)

        by_place : SpawnsAt es before o q ⊎ ((before ≡ es) × (e ≡ Spawns o)) → ((t : Live) × (task q b.live ≡ Some t)) ⊎ Contains es' (Ends q)
        by_place (inl s) = by_life (k.spawned before o q s)
        by_place (inr (g, s)) = absurd (no_spawn o s)

    begun_still : (id : ScopeId) (q : List ℕ) → Begun es' id q → Contains (k.line q) id
    begun_still id q h = by_place (begun_last es e id (λ o s. absurd (no_spawn o s)) q h)
      where
        by_place : Begun es id q ⊎ BegunLast es id e q → Contains (k.line q) id
        by_place (inl g) = k.begun id q g
        by_place (inr l) = absurd (no_spawn l.parent l.spawns)

    pub kept_by : Kept es' b
    kept_by = record {
      line = k.line;
      no_line = k.no_line;
      unique = c.unique;
      tasks = c.tasks;
      hangs = hangs_still;
      named = λ q t f. named_still es e q (let s = c.from q t f in k.named q s.0 s.1);
      known = c.known;
      scopes = c.scopes;
      quiet = quiet_still;
      spawned = spawned_still;
      begun = begun_still;
    }

  -- ---- one task changes
  pub record Put (to : Live) (ss : List Scope) : Type 0 where
    pub was : Live
    pub found : task to.path a.live ≡ Some was
    pub others : (q : List ℕ) → (to.path ≡ q → ⊥) → told es' q ≡ told es q
    pub tells : IsTold (told es' to.path) (k.line to.path) to.path to
    pub inside : (m : ℕ) (top low : List ℕ) → (told es to.path).inside ≡ top ++ m ∷ low → 1 ≤ held (own to.path m) a.live → (up : List ℕ) × ((told es' to.path).inside ≡ up ++ m ∷ low)
    pub known : Each (IsKnown es') to.stakes
    pub scopes : (id : ScopeId) (s : Scope) → scope id ss ≡ Some s → ScopeOk es' (put_task to a.live) id s

  module _ (to : Live) (ss : List Scope) (p : Put to ss) where
    abbrev b : World
    b = record { live = put_task to a.live; scopes = ss }

    put_tasks : (q : List ℕ) (t : Live) → IsPut to a.live q t → IsTold (told es' q) (k.line q) q t
    put_tasks q t h = by_place h.here
      where
        by_place : ((to.path ≡ q) × (to ≡ t)) ⊎ ((to.path ≡ q → ⊥) × (task q a.live ≡ Some t)) → IsTold (told es' q) (k.line q) q t
        by_place (inl (f, g)) = subst (λ s. IsTold (told es' q) (k.line q) q s) g (subst (λ r. IsTold (told es' r) (k.line r) r to) f p.tells)
        by_place (inr (f, g)) = subst (λ x. IsTold x (k.line q) q t) (sym (p.others q f)) (k.tasks q t g)

    put_open : (u : List ℕ) (m : ℕ) (top low : List ℕ) (t : Live) → task u a.live ≡ Some t → (told es u).inside ≡ top ++ m ∷ low → 1 ≤ held (own u m) a.live → StillOpen es' b.live u m low
    put_open u m top low t f g h =
        by_test (λ x. (same_path to.path u ≡ x) → StillOpen es' b.live u m low) (same_path to.path u)
        (λ d d'. same (paths_same to.path u d))
        (λ d d'. let l = put_lives to p.was t u a.live p.found f in
        record { its = l.0; lives = l.1; top = top; inside = ap (λ (x : Told). x.inside) (p.others u (other_path d)) ∙ g }) refl
      where
        same : to.path ≡ u → StillOpen es' b.live u m low
        same d =
            let l = put_lives to p.was t u a.live p.found f in
            let up = p.inside m top low (ap (λ r. (told es r).inside) d ∙ g) (subst (λ r. 1 ≤ held (own r m) a.live) (sym d) h) in
            record { its = l.0; lives = l.1; top = up.0; inside = ap (λ r. (told es' r).inside) (sym d) ∙ up.1 }

    put_quiet : (q : List ℕ) → IsNamed es q ⊎ (told es' q ≡ told es q)
    put_quiet q =
        by_test (λ x. IsNamed es q ⊎ (told es' q ≡ told es q)) (same_path to.path q)
        (λ d. inl (subst (IsNamed es) (paths_same to.path q d) (k.named to.path p.was p.found)))
        (λ d. inr (p.others q (other_path d)))

    pub put_change : Change b
    put_change = record {
      unique = unique-put_task to p.was a.live p.found k.unique;
      from = λ q t f. put_from to p.was t q a.live p.found (put_cases to p.was t q a.live p.found f);
      tasks = λ q t f. put_tasks q t (put_cases to p.was t q a.live p.found f);
      open' = put_open;
      known = each-put_task (λ (t : Live). Each (IsKnown es') t.stakes) to a.live (all_known_more es e a.live k.known) p.known;
      scopes = p.scopes;
      quiet = put_quiet;
      ended = λ q t f. inl (put_lives to p.was t q a.live p.found f);
    }
