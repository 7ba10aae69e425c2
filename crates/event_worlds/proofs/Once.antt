-- A task hands on one result, once it has ended.
use Rattle.std.proofs.Common.{◌≡◌, ℕ, ◌+◌, ◌-◌, ◌/◌, List, [], ◌∷◌, ◌++◌, Option, Some, None, refl, sym, ap, ◌∙◌}
use Rattle.std.proofs.Common.{subst, inl, inr}
use Rattle.std.proofs.lemmas.List.{append-nil}
use Rattle.std.proofs.lemmas.List.Elements.{Contains-append_left, Contains-push}
use Rattle.std.specs.Prelude.{Bool, true, false, ◌⊎◌, ◌≢◌, map, Contains, if◌then◌else◌}
use Rattle.std.proofs.lemmas.Option.{none-some, same_Some}
use Rattle.shared_lemmas.proofs.Truths.{not_both}
use Rattle.shared_lemmas.proofs.Lists.{same_head}
use Rattle.task_run.specs.Results.{TaskResult}
use Rattle.task_run.specs.Lists.{Each}
use Rattle.task_run.specs.OwnRun.{Action}
use Rattle.task_run.specs.Settling.{NoTwice}
use Rattle.task_run.proofs.Lists.{each_more, each_last}
use Rattle.event_worlds.specs.World.{ScopeId, Live, Scope, World, Hand, Parked, same_scope, child_path, task, put_task}
use Rattle.event_worlds.specs.World.{without_task, scope, put_scope}
use Rattle.event_worlds.specs.Events.{Event, Take, Steal, Steps, Replenish, Spawns, Opens, Parks, Ends, Pass, Resume}
use Rattle.event_worlds.specs.Events.{issue, give_back, did, new_task, new_scope}
use Rattle.event_worlds.specs.History.{told}
use Rattle.event_worlds.proofs.Lookups.{path_is, by_test, path_not, task-put_task, none-without_task}
use Rattle.event_worlds.proofs.Lookups.{gone-without_task}
use Rattle.event_worlds.proofs.Histories.{still_spawns, nil_cons}
use Rattle.event_worlds.proofs.Stakes.{scope_of, own}
use Rattle.event_worlds.proofs.Changes.{IsQuiet, IsEnd, Becomes}
use Rattle.event_worlds.proofs.Kept.{base, WasSpawned, IsNamed, Kept}
use Rattle.event_worlds.proofs.Events.{rebooked}
use Rattle.event_worlds.proofs.Spawning.{not_named}

-- a task that has ended
pub record IsGone (es : List Event) (live : List Live) (q : List ℕ) : Type 0 where
  pub none : task q live ≡ None
  pub spawned : WasSpawned es q
  pub ended : Contains es (Ends q)

abbrev pub OfGone : List Event → List Live → TaskResult → Type 0
OfGone es live r = IsGone es live r.path

abbrev pub AllOnce : List Event → List Live → List Scope → Type 0
AllOnce es live ss = (id : ScopeId) (s : Scope) → scope id ss ≡ Some s → NoTwice s.results × Each (OfGone es live) s.results

none_put : (to was : Live) (path q : List ℕ) (ts : List Live) → task path ts ≡ Some was → to.path ≡ path → task q ts ≡ None → task q (put_task to ts) ≡ None
none_put to was path q ts e f n =
    let ne : to.path ≡ q → ⊥ = λ g. none-some _ (sym n ∙ ap (λ r. task r ts) (sym g ∙ f) ∙ e) in
    task-put_task to was q ts (ap (λ r. task r ts) f ∙ e) ∙ ap (λ (b : Bool). if b then Some to else task q ts) (path_not to.path q ne) ∙ n

no_twice_last : (rs : List TaskResult) (x : TaskResult) → NoTwice rs → Each (λ (r : TaskResult). x.path ≢ r.path) rs → NoTwice (rs ++ x ∷ [])
no_twice_last [] x h k = (tt, tt)
no_twice_last (r ∷ rs) x h k = (each_last (λ (o : TaskResult). o.path ≢ r.path) rs x h.0 k.0, no_twice_last rs x h.1 k.1)

module _ (es : List Event) (e : Event) (a : World) (h : AllOnce es a.live a.scopes) where
  abbrev es' : List Event
  es' = es ++ e ∷ []

  gone_still : (live : List Live) → ((q : List ℕ) → WasSpawned es q → task q a.live ≡ None → task q live ≡ None) → (q : List ℕ) → IsGone es a.live q → IsGone es' live q
  gone_still live f q g = record {
    none = f q g.spawned g.none;
    spawned = record { before = g.spawned.before; parent = g.spawned.parent; at = still_spawns es e g.spawned.before g.spawned.parent q g.spawned.at };
    ended = Contains-append_left es (e ∷ []) (Ends q) g.ended;
  }

  -- unchanged scopes, with other tasks
  still_once : (live : List Live) → ((q : List ℕ) → WasSpawned es q → task q a.live ≡ None → task q live ≡ None) → AllOnce es' live a.scopes
  still_once live f id s g =
      let o = h id s g in
      (o.0, each_more (OfGone es a.live) (OfGone es' live) s.results (λ r. gone_still live f r.path) o.1)

  -- another book, whose results are right
  booked_once : (live : List Live) → AllOnce es' live a.scopes → (x : ScopeId) (book to : Scope) → scope x a.scopes ≡ Some book → to.id ≡ x
      → NoTwice to.results × Each (OfGone es' live) to.results → AllOnce es' live (put_scope to a.scopes)
  booked_once live k x book to f g fine id s i = by_place (rebooked x book to a.scopes id s f g i)
    where
      by_place : ((x ≡ id) × (to ≡ s)) ⊎ ((same_scope x id ≡ false) × (scope id a.scopes ≡ Some s)) → NoTwice s.results × Each (OfGone es' live) s.results
      by_place (inl (u, v)) = subst (λ (r : Scope). NoTwice r.results × Each (OfGone es' live) r.results) v fine
      by_place (inr (u, v)) = k id s v

  -- with unchanged results
  same_results : (live : List Live) → AllOnce es' live a.scopes → (x : ScopeId) (book to : Scope) → scope x a.scopes ≡ Some book → to.id ≡ x → to.results ≡ book.results → AllOnce es' live (put_scope to a.scopes)
  same_results live k x book to f g same = booked_once live k x book to f g (subst (λ rs. NoTwice rs × Each (OfGone es' live) rs) (sym same) (k x book f))

  abbrev Goes : World → Type 0
  Goes w = AllOnce es' w.live w.scopes

  quiet_once : {does : Live → Option Action} (path : List ℕ) (b : World) → IsQuiet does path a b → Goes b
  quiet_once path b k = subst Goes k.now (still_once (put_task k.to a.live) (λ q s n. none_put k.to k.was path q a.live k.found (k.renamed ∙ k.named) n))

-- the root doesn't end
pub root_stays : {does : Live → Option Action} {gives : Live → TaskResult} (es : List Event) (a : World) → Kept es a → {p : List ℕ} {b : World} → (c : IsEnd does gives p a b) → p ≡ [] → ⊥
root_stays es a k {p = p} c f =
    let i = k.tasks p c.at.was c.at.found in
    let line = ap base (ap k.line f ∙ k.no_line) in
    owned (told es p).inside (ap (map scope_of) (sym c.at.stakes) ∙ i.stakes ∙ ap (λ l. map (own p) (told es p).inside ++ l) line)
  where
    owned : (ns : List ℕ) → map scope_of (c.at.inner ∷ c.at.outer) ≡ map (own p) ns ++ [] → ⊥
    owned [] e = nil_cons (sym e)
    owned (n ∷ ns) e = not_both (path_is (c.at.named ∙ ap (λ (i : ScopeId). i.owner) (sym (same_head e)))) c.own

pub event_once : (does : Live → Option Action) (gives : Live → TaskResult) (w0 : ℕ) (es : List Event) (e : Event) (a b : World) → Kept es a → AllOnce es a.live a.scopes
    → ((q : List ℕ) (t : Live) → task q a.live ≡ Some t → (gives t).path ≡ q) → Becomes does gives w0 e a b → AllOnce (es ++ e ∷ []) b.live b.scopes
event_once does gives w0 es (Take w p) a b k h paths c = quiet_once es (Take w p) a h p b c
event_once does gives w0 es (Steal w f p) a b k h paths c = quiet_once es (Steal w f p) a h p b c
event_once does gives w0 es (Steps p) a b k h paths c = quiet_once es (Steps p) a h p b c
event_once does gives w0 es (Replenish p) a b k h paths c =
    let e = Replenish p in
    let to : Live = record c.at.was { stakes = record c.at.inner { weight = 1 + w0 } ∷ c.at.outer } in
    subst (λ (w : World). AllOnce (es ++ e ∷ []) w.live w.scopes) c.now
    (same_results es e a h (put_task to a.live) (still_once es e a h (put_task to a.live) (λ q s n. none_put to c.at.was p q a.live c.at.found c.at.named n)) c.at.inner.scope c.of.book (issue w0 c.of.book) c.of.found c.of.id refl)
event_once does gives w0 es (Spawns p) a b k h paths c =
    let e = Spawns p in
    let to : Live = record (did c.at.was (record c.at.inner { weight = c.at.inner.weight - c.at.inner.weight / 2 } ∷ c.at.outer)) { spawned = c.at.was.spawned + 1 } in
    let kid : Live = new_task (child_path c.at.was.path (c.at.was.spawned + 1)) c.child (record c.at.inner { weight = c.at.inner.weight / 2 }) c.at.worker in
    subst (λ (w : World). AllOnce (es ++ e ∷ []) w.live w.scopes) c.now
    (still_once es e a h (kid ∷ put_task to a.live) (λ q s n.
    ap (λ (x : Bool). if x then Some kid else task q (put_task to a.live)) (path_not kid.path q (λ f. not_named es a k p b c (inr (subst (WasSpawned es) (sym f) s))))
    ∙ none_put to c.at.was p q a.live c.at.found c.at.named n))
event_once does gives w0 es (Opens p) a b k h paths c =
    let e = Opens p in
    let its : ScopeId = record { owner = c.was.path; number = c.was.opened + 1 } in
    let to : Live = record (did c.was (record { scope = its; weight = w0 } ∷ c.was.stakes)) { opened = c.was.opened + 1 } in
    let same = still_once es e a h (put_task to a.live) (λ q s n. none_put to c.was p q a.live c.found c.named n) in
    subst (λ (w : World). AllOnce (es ++ e ∷ []) w.live w.scopes) c.now (λ id s f.
    by_test (λ x. (if x then Some (new_scope its w0) else scope id a.scopes) ≡ Some s → NoTwice s.results × Each (OfGone (es ++ e ∷ []) (put_task to a.live)) s.results) (same_scope its id)
    (λ g f. subst (λ (r : Scope). NoTwice r.results × Each (OfGone (es ++ e ∷ []) (put_task to a.live)) r.results) (same_Some _ _ f) (tt, tt))
    (λ g f. same id s f) f)
event_once does gives w0 es (Parks p) a b k h paths c =
    let e = Parks p in
    let to : Live = record (did c.at.was (record c.at.inner { weight = 0 } ∷ c.at.outer)) { place = Parked } in
    subst (λ (w : World). AllOnce (es ++ e ∷ []) w.live w.scopes) c.now
    (same_results es e a h (put_task to a.live) (still_once es e a h (put_task to a.live) (λ q s n. none_put to c.at.was p q a.live c.at.found c.at.named n)) c.at.inner.scope c.of.book (give_back c.at.inner.weight [] c.of.book) c.of.found c.of.id (append-nil c.of.book.results))
event_once does gives w0 es (Ends p) a b k h paths c =
    let e = Ends p in
    let live = without_task c.at.was.path a.live in
    let same = still_once es e a h live (λ q s n. none-without_task c.at.was.path q a.live n) in
    let x = gives c.at.was in
    let path : x.path ≡ p = paths p c.at.was c.at.found in
    let was = h c.at.inner.scope c.of.book c.of.found in
    let now = same c.at.inner.scope c.of.book c.of.found in
    subst (λ (w : World). AllOnce (es ++ e ∷ []) w.live w.scopes) c.now
    (booked_once es e a h live same c.at.inner.scope c.of.book (give_back c.at.inner.weight (x ∷ []) c.of.book) c.of.found c.of.id (
      no_twice_last c.of.book.results x was.0 (each_more (OfGone es a.live) (λ (r : TaskResult). x.path ≢ r.path) c.of.book.results
          (λ r g same. none-some _ (sym g.none ∙ ap (λ q. task q a.live) (sym same ∙ path) ∙ c.at.found)) was.1),
      each_last (OfGone (es ++ e ∷ []) live) c.of.book.results x now.1 (record {
        none = ap (λ q. task q live) (path ∙ sym c.at.named) ∙ gone-without_task c.at.was.path a.live k.unique;
        spawned = subst (WasSpawned (es ++ e ∷ [])) (sym path) (not_root (k.named p c.at.was c.at.found));
        ended = subst (λ q. Contains (es ++ e ∷ []) (Ends q)) (sym path) (Contains-push es (Ends p));
      }),
    ))
  where
    not_root : IsNamed es p → WasSpawned (es ++ Ends p ∷ []) p
    not_root (inr s) = record { before = s.before; parent = s.parent; at = still_spawns es (Ends p) s.before s.parent p s.at }
    not_root (inl f) = absurd (root_stays es a k c f)
event_once does gives w0 es (Pass id) a b k h paths c =
    let e = Pass id in
    subst (λ (w : World). AllOnce (es ++ e ∷ []) w.live w.scopes) c.now
    (same_results es e a h a.live (still_once es e a h a.live (λ q s n. n)) id c.book (record c.book { passed = true }) c.found c.same refl)
event_once does gives w0 es (Resume w p z) a b k h paths c =
    let e = Resume w p z in
    let to : Live = record c.was { receipts = c.was.receipts ++ c.of.book.results ∷ []; stakes = c.next ∷ c.outer; place = Hand c.worker } in
    subst (λ (w : World). AllOnce (es ++ e ∷ []) w.live w.scopes) c.now
    (still_once es e a h (put_task to a.live) (λ q s n. none_put to c.was p q a.live c.found c.named n))
