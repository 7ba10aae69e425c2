-- The result of each ended task is in the scope in which it was spawned, and in no other.
use Rattle.std.proofs.Common.{◌≡◌, ℕ, ◌+◌, ◌-◌, ◌/◌, List, [], ◌∷◌, ◌++◌, length, Option, Some, refl, sym, ap, ◌∙◌}
use Rattle.std.proofs.Common.{subst, inl, inr, arith}
use Rattle.std.proofs.lemmas.List.{append-nil}
use Rattle.std.proofs.lemmas.List.Elements.{Contains-append_left, Contains-push, Contains-push_cases}
use Rattle.std.specs.Prelude.{Bool, true, false, ◌⊎◌, map, Contains, if◌then◌else◌}
use Rattle.std.proofs.lemmas.Option.{none-some, same_Some}
use Rattle.shared_lemmas.proofs.Truths.{not_both}
use Rattle.shared_lemmas.proofs.Lists.{same_head, same_rest}
use Rattle.task_run.specs.Results.{TaskResult}
use Rattle.task_run.specs.Lists.{Each}
use Rattle.task_run.specs.OwnRun.{Action}
use Rattle.task_run.proofs.SettledResults.{paths_same}
use Rattle.task_run.proofs.Lists.{each_more, each_last, SameEnd, same_end}
use Rattle.event_worlds.specs.World.{same_path, ScopeId, Stake, Live, Scope, World, Hand, Parked, same_scope}
use Rattle.event_worlds.specs.World.{child_path, task, put_task, without_task, scope, put_scope}
use Rattle.event_worlds.specs.Events.{Event, Take, Steal, Steps, Replenish, Spawns, Opens, Parks, Ends, Pass, Resume}
use Rattle.event_worlds.specs.Events.{issue, give_back, did, new_task, new_scope}
use Rattle.event_worlds.specs.History.{told, SpawnsAt, BegunIn, in_own, handed_on}
use Rattle.event_worlds.proofs.Lookups.{by_test, other_path, task-without_task, gone-without_task}
use Rattle.event_worlds.proofs.Lookups.{scope-put_scope, scope_is, path_is, scopes_same}
use Rattle.event_worlds.proofs.Histories.{nil_cons, still_spawns, spawned_since}
use Rattle.event_worlds.proofs.Stakes.{scope_of, own}
use Rattle.event_worlds.proofs.Changes.{IsQuiet, IsSpawn, IsOpen, IsEnd, IsResume, Becomes}
use Rattle.event_worlds.proofs.Kept.{base, Kept, Hangs}
use Rattle.event_worlds.proofs.Steps.{put_cases}
use Rattle.event_worlds.proofs.Events.{rebooked}
use Rattle.event_worlds.proofs.Scopes.{Lone, lone}

-- ---- one position in a history
record Splits {X : Type 0} (b c : List X) (x y : X) : Type 0 where
  how : (b ≡ c) ⊎ (((m : List X) × (c ≡ b ++ x ∷ m)) ⊎ ((m : List X) × (b ≡ c ++ y ∷ m)))

splits : {X : Type 0} (b c l m : List X) (x y : X) → b ++ x ∷ l ≡ c ++ y ∷ m → Splits b c x y
splits [] [] l m x y e = record { how = inl refl }
splits [] (d ∷ c) l m x y e = record { how = inr (inl (c, ap (λ z. z ∷ c) (sym (same_head e)))) }
splits (d ∷ b) [] l m x y e = record { how = inr (inr (b, ap (λ z. z ∷ b) (same_head e))) }
splits (d ∷ b) (f ∷ c) l m x y e = further (splits b c l m x y (same_rest e)).how
  where
    further : (b ≡ c) ⊎ (((m : List _) × (c ≡ b ++ x ∷ m)) ⊎ ((m : List _) × (b ≡ c ++ y ∷ m))) → Splits (d ∷ b) (f ∷ c) x y
    further (inl g) = record { how = inl (ap (λ z. z ∷ b) (same_head e) ∙ ap (λ l. f ∷ l) g) }
    further (inr (inl (k, g))) = record { how = inr (inl (k, ap (λ z. z ∷ c) (sym (same_head e)) ∙ ap (λ l. d ∷ l) g)) }
    further (inr (inr (k, g))) = record { how = inr (inr (k, ap (λ z. z ∷ b) (same_head e) ∙ ap (λ l. f ∷ l) g)) }

record SameSpawn (b c : List Event) (o p : List ℕ) : Type 0 where
  before : b ≡ c
  parent : o ≡ p

-- a child is spawned once
spawn_once : (es b c : List Event) (o p q : List ℕ) → SpawnsAt es b o q → SpawnsAt es c p q → SameSpawn b c o p
spawn_once es b c o p q h k = by_split (splits b c h.later k.later (Spawns o) (Spawns p) (sym h.here ∙ k.here)).how
  where
    same : SameEnd o p ((told b o).spawned + 1) ((told c p).spawned + 1)
    same = same_end o p ((told b o).spawned + 1) ((told c p).spawned + 1) (sym h.numbered ∙ k.numbered)

    by_split : (b ≡ c) ⊎ (((m : List Event) × (c ≡ b ++ Spawns o ∷ m)) ⊎ ((m : List Event) × (b ≡ c ++ Spawns p ∷ m))) → SameSpawn b c o p
    by_split (inl e) = record { before = e; parent = same.front }
    by_split (inr (inl (m, e))) =
        let a = spawned_since c b o (child_path o ((told b o).spawned + 1)) (record { later = m; here = e; numbered = refl }) in
        let n : (told c o).spawned ≡ (told c p).spawned = ap (λ r. (told c r).spawned) same.front in
        let f = same.last in
        absurd (omega (arith, a, n, f))
    by_split (inr (inr (m, e))) =
        let a = spawned_since b c p (child_path p ((told c p).spawned + 1)) (record { later = m; here = e; numbered = refl }) in
        let n : (told b o).spawned ≡ (told b p).spawned = ap (λ r. (told b r).spawned) same.front in
        let f = same.last in
        absurd (omega (arith, a, n, f))

-- a task is spawned in one scope
pub begun_in_one : (es : List Event) (i j : ScopeId) (q : List ℕ) → BegunIn es i q → BegunIn es j q → i ≡ j
begun_in_one es i j q (in_own {before = b} {low = l} h e) (in_own {before = c} {low = m} k f) =
    let s = spawn_once es b c i.owner j.owner q h k in
    let ns = sym e ∙ ap (λ x. (told x i.owner).inside) s.before ∙ ap (λ r. (told c r).inside) s.parent ∙ f in
    ap (λ r. own r i.number) s.parent ∙ ap (own j.owner) (same_head ns)
begun_in_one es i j q (in_own {before = b} h e) (handed_on {before = c} {path = p} k f g) =
    let s = spawn_once es b c i.owner p q h k in
    absurd (nil_cons (sym (sym e ∙ ap (λ x. (told x i.owner).inside) s.before ∙ ap (λ r. (told c r).inside) s.parent ∙ f)))
begun_in_one es i j q (handed_on {before = b} {path = o} h e g) (in_own {before = c} k f) =
    let s = spawn_once es b c o j.owner q h k in
    absurd (nil_cons (sym e ∙ ap (λ x. (told x o).inside) s.before ∙ ap (λ r. (told c r).inside) s.parent ∙ f))
begun_in_one es i j q (handed_on {before = b} {path = o} h e g) (handed_on {before = c} {path = p} k f m) =
    let s = spawn_once es b c o p q h k in
    begun_in_one es i j o g (subst (BegunIn es j) (sym s.parent) m)

pub begun_in_still : (es : List Event) (e : Event) (id : ScopeId) (q : List ℕ) → BegunIn es id q → BegunIn (es ++ e ∷ []) id q
begun_in_still es e id q (in_own {before = b} h f) = in_own (still_spawns es e b id.owner q h) f
begun_in_still es e id q (handed_on {before = b} {path = o} h f g) = handed_on (still_spawns es e b o q h) f (begun_in_still es e id o g)

-- ---- the scope in which a task was spawned is the last one that it is in
abbrev pub Last : List Stake → ScopeId → Type 0
Last [] id = ⊥
Last (s ∷ []) id = s.scope ≡ id
Last (s ∷ r ∷ more) id = Last (r ∷ more) id

last_same_scopes : (ss rs : List Stake) (id : ScopeId) → map scope_of ss ≡ map scope_of rs → Last ss id → Last rs id
last_same_scopes [] rs id e h = absurd h
last_same_scopes (s ∷ ss) [] id e h = absurd (nil_cons (sym e))
last_same_scopes (s ∷ []) (r ∷ []) id e h = sym (same_head e) ∙ h
last_same_scopes (s ∷ []) (r ∷ t ∷ rs) id e h = absurd (nil_cons (same_rest e))
last_same_scopes (s ∷ t ∷ ss) (r ∷ []) id e h = absurd (nil_cons (sym (same_rest e)))
last_same_scopes (s ∷ t ∷ ss) (r ∷ u ∷ rs) id e h = last_same_scopes (t ∷ ss) (u ∷ rs) id (same_rest e) h

-- the result of a task is in a scope
pub record IsKeptIn (es : List Event) (ss : List Scope) (q : List ℕ) : Type 0 where
  pub id : ScopeId
  pub begun : BegunIn es id q
  pub its : Scope
  pub there : scope id ss ≡ Some its
  pub result : TaskResult
  pub among : Contains its.results result
  pub path : result.path ≡ q

pub record Handed (es : List Event) (w : World) : Type 0 where
  -- a live task other than the root was spawned in the last scope that it is in
  pub live : (q : List ℕ) (t : Live) (id : ScopeId) → task q w.live ≡ Some t → Last t.stakes id → (id.owner ≡ q) ⊎ BegunIn es id q
  -- each result is in the scope in which its task was spawned
  pub results : (id : ScopeId) (s : Scope) → scope id w.scopes ≡ Some s → Each (λ (r : TaskResult). BegunIn es id r.path) s.results
  -- the result of each ended task is in some scope
  pub ended : (q : List ℕ) → Contains es (Ends q) → IsKeptIn es w.scopes q

-- ---- scopes that change
kept_put : (es : List Event) (e : Event) (ss : List Scope) (x : ScopeId) (book to : Scope) (more : List TaskResult) → scope x ss ≡ Some book → to.id ≡ x → to.results ≡ book.results ++ more → (q : List ℕ) → IsKeptIn es ss q → IsKeptIn (es ++ e ∷ []) (put_scope to ss) q
kept_put es e ss x book to more f g same q h =
    by_test (λ b. scope h.id (put_scope to ss) ≡ (if b then Some to else scope h.id ss) → (same_scope to.id h.id ≡ b) → IsKeptIn (es ++ e ∷ []) (put_scope to ss) q) (same_scope to.id h.id)
    (λ i j i'. let at = sym g ∙ scopes_same to.id h.id i in
    let its : h.its ≡ book = same_Some _ _ (sym h.there ∙ ap (λ y. scope y ss) (sym at) ∙ f) in
    record {
      id = h.id;
      begun = begun_in_still es e h.id q h.begun;
      its = to;
      there = j;
      result = h.result;
      among = subst (λ rs. Contains rs h.result) (sym same) (Contains-append_left book.results more h.result (subst (λ (s : Scope). Contains s.results h.result) its h.among));
      path = h.path;
    })
    (λ i j i'. record { id = h.id; begun = begun_in_still es e h.id q h.begun; its = h.its; there = j ∙ h.there; result = h.result; among = h.among; path = h.path })
    (scope-put_scope to book h.id ss (ap (λ y. scope y ss) g ∙ f)) refl

kept_same : (es : List Event) (e : Event) (ss : List Scope) (q : List ℕ) → IsKeptIn es ss q → IsKeptIn (es ++ e ∷ []) ss q
kept_same es e ss q h = record { id = h.id; begun = begun_in_still es e h.id q h.begun; its = h.its; there = h.there; result = h.result; among = h.among; path = h.path }

module _ (es : List Event) (e : Event) (a : World) (k : Kept es a) (h : Handed es a) where
  abbrev es' : List Event
  es' = es ++ e ∷ []

  abbrev LiveOk : List Live → Type 0
  LiveOk ts = (q : List ℕ) (t : Live) (id : ScopeId) → task q ts ≡ Some t → Last t.stakes id → (id.owner ≡ q) ⊎ BegunIn es' id q

  abbrev ResultsOk : List Scope → Type 0
  ResultsOk ss = (id : ScopeId) (s : Scope) → scope id ss ≡ Some s → Each (λ (r : TaskResult). BegunIn es' id r.path) s.results

  more : (q : List ℕ) (id : ScopeId) → (id.owner ≡ q) ⊎ BegunIn es id q → (id.owner ≡ q) ⊎ BegunIn es' id q
  more q id (inl f) = inl f
  more q id (inr f) = inr (begun_in_still es e id q f)

  live_still : LiveOk a.live
  live_still q t id f l = more q id (h.live q t id f l)

  live_put : (to was : Live) (path : List ℕ) → task path a.live ≡ Some was → to.path ≡ path → ((id : ScopeId) → Last to.stakes id → (id.owner ≡ path) ⊎ BegunIn es' id path) → LiveOk (put_task to a.live)
  live_put to was path f g its q t id i l = by_place (put_cases to was t q a.live (ap (λ r. task r a.live) g ∙ f) i).here
    where
      by_place : ((to.path ≡ q) × (to ≡ t)) ⊎ ((to.path ≡ q → ⊥) × (task q a.live ≡ Some t)) → (id.owner ≡ q) ⊎ BegunIn es' id q
      by_place (inl (u, v)) = subst (λ r. (id.owner ≡ r) ⊎ BegunIn es' id r) (sym g ∙ u) (its id (subst (λ (t : Live). Last t.stakes id) (sym v) l))
      by_place (inr (u, v)) = live_still q t id v l

  -- with unchanged scopes
  live_same : (to was : Live) (path : List ℕ) → task path a.live ≡ Some was → to.path ≡ path → map scope_of to.stakes ≡ map scope_of was.stakes → LiveOk (put_task to a.live)
  live_same to was path f g same = live_put to was path f g (λ id l. live_still path was id f (last_same_scopes to.stakes was.stakes id same l))

  results_still : ResultsOk a.scopes
  results_still id s f = each_more (λ (r : TaskResult). BegunIn es id r.path) (λ (r : TaskResult). BegunIn es' id r.path) s.results (λ r. begun_in_still es e id r.path) (h.results id s f)

  results_put : (x : ScopeId) (book to : Scope) → scope x a.scopes ≡ Some book → to.id ≡ x → Each (λ (r : TaskResult). BegunIn es' x r.path) to.results → ResultsOk (put_scope to a.scopes)
  results_put x book to f g its id s i = by_place (rebooked x book to a.scopes id s f g i)
    where
      by_place : ((x ≡ id) × (to ≡ s)) ⊎ ((same_scope x id ≡ false) × (scope id a.scopes ≡ Some s)) → Each (λ (r : TaskResult). BegunIn es' id r.path) s.results
      by_place (inl (u, v)) = subst (λ (s : Scope). Each (λ (r : TaskResult). BegunIn es' id r.path) s.results) v (subst (λ i. Each (λ (r : TaskResult). BegunIn es' i r.path) to.results) u its)
      by_place (inr (u, v)) = results_still id s v

  -- an event other than an end
  ended_still : ((q : List ℕ) → e ≡ Ends q → ⊥) → (ss : List Scope) → ((q : List ℕ) → IsKeptIn es a.scopes q → IsKeptIn es' ss q) → (q : List ℕ) → Contains es' (Ends q) → IsKeptIn es' ss q
  ended_still not_end ss f q c = by_place (Contains-push_cases es e (Ends q) c)
    where
      by_place : Contains es (Ends q) ⊎ (e ≡ Ends q) → IsKeptIn es' ss q
      by_place (inl d) = f q (h.ended q d)
      by_place (inr g) = absurd (not_end q g)

  -- a book changes, except its results
  booked : ((q : List ℕ) → e ≡ Ends q → ⊥) → (live : List Live) → LiveOk live → (x : ScopeId) (book to : Scope) → scope x a.scopes ≡ Some book → to.id ≡ x → to.results ≡ book.results → Handed es' (record { live = live; scopes = put_scope to a.scopes })
  booked not_end live ok x book to f g same = record {
    live = ok;
    results = results_put x book to f g (subst (Each (λ (r : TaskResult). BegunIn es' x r.path)) (sym same) (results_still x book f));
    ended = ended_still not_end (put_scope to a.scopes) (kept_put es e a.scopes x book to [] f g (same ∙ sym (append-nil book.results)));
  }

  unbooked : ((q : List ℕ) → e ≡ Ends q → ⊥) → (live : List Live) → LiveOk live → Handed es' (record { live = live; scopes = a.scopes })
  unbooked not_end live ok = record { live = ok; results = results_still; ended = ended_still not_end a.scopes (kept_same es e a.scopes) }

  quiet_handed : {does : Live → Option Action} → ((q : List ℕ) → e ≡ Ends q → ⊥) → (path : List ℕ) (b : World) → IsQuiet does path a b → Handed es' b
  quiet_handed not_end path b c = subst (Handed es') c.now (unbooked not_end (put_task c.to a.live) (live_same c.to c.was path c.found (c.renamed ∙ c.named) (ap (map scope_of) c.stakes)))

abbrev IsNoEnd : Event → Type 0
IsNoEnd (Ends p) = ⊥
IsNoEnd e = Unit {0}

no_end : (e : Event) → IsNoEnd e → (q : List ℕ) → e ≡ Ends q → ⊥
no_end e h q f = subst IsNoEnd f h

module _ (does : Live → Option Action) (gives : Live → TaskResult) (w0 : ℕ) (es : List Event) (a b : World) (k : Kept es a) (h : Handed es a) where
  open_handed : (p : List ℕ) → IsOpen does w0 p a b → Handed (es ++ Opens p ∷ []) b
  open_handed p c = subst (Handed (es ++ Opens p ∷ [])) c.now (record { live = live_put es (Opens p) a k h to c.was p c.found c.named its; results = results; ended = ended_still es (Opens p) a k h (no_end (Opens p) tt) (new_scope id w0 ∷ a.scopes) still })
    where
      id : ScopeId
      id = record { owner = c.was.path; number = c.was.opened + 1 }

      to : Live
      to = record (did c.was (record { scope = record { owner = c.was.path; number = c.was.opened + 1 }; weight = w0 } ∷ c.was.stakes)) { opened = c.was.opened + 1 }

      its : (i : ScopeId) → Last (record { scope = record { owner = c.was.path; number = c.was.opened + 1 }; weight = w0 } ∷ c.was.stakes) i → (i.owner ≡ p) ⊎ BegunIn (es ++ Opens p ∷ []) i p
      its i l = by_stakes c.was.stakes refl l
        where
          by_stakes : (ss : List Stake) → c.was.stakes ≡ ss → Last (record { scope = record { owner = c.was.path; number = c.was.opened + 1 }; weight = w0 } ∷ ss) i → (i.owner ≡ p) ⊎ BegunIn (es ++ Opens p ∷ []) i p
          by_stakes [] f l = inl (ap (λ (i : ScopeId). i.owner) (sym l) ∙ c.named)
          by_stakes (s ∷ ss) f l = live_still es (Opens p) a k h p c.was i c.found (subst (λ x. Last x i) (sym f) l)

      results : ResultsOk es (Opens p) a k h (new_scope (record { owner = c.was.path; number = c.was.opened + 1 }) w0 ∷ a.scopes)
      results j s f =
          by_test (λ x. (if x then Some (new_scope (record { owner = c.was.path; number = c.was.opened + 1 }) w0) else scope j a.scopes) ≡ Some s → Each (λ (r : TaskResult). BegunIn (es ++ Opens p ∷ []) j r.path) s.results)
          (same_scope (record { owner = c.was.path; number = c.was.opened + 1 }) j)
          (λ g f. subst (λ (s : Scope). Each (λ (r : TaskResult). BegunIn (es ++ Opens p ∷ []) j r.path) s.results) (same_Some _ _ f) tt)
          (λ g f. results_still es (Opens p) a k h j s f) f

      still : (q : List ℕ) → IsKeptIn es a.scopes q → IsKeptIn (es ++ Opens p ∷ []) (new_scope (record { owner = c.was.path; number = c.was.opened + 1 }) w0 ∷ a.scopes) q
      still q g =
          by_test (λ x. same_scope (record { owner = c.was.path; number = c.was.opened + 1 }) g.id ≡ x → IsKeptIn (es ++ Opens p ∷ []) (new_scope (record { owner = c.was.path; number = c.was.opened + 1 }) w0 ∷ a.scopes) q)
          (same_scope (record { owner = c.was.path; number = c.was.opened + 1 }) g.id)
          (λ i i'. let same = scopes_same (record { owner = c.was.path; number = c.was.opened + 1 }) g.id i in
          let known = (k.scopes g.id g.its g.there).known in
          let opened = (k.tasks p c.was c.found).opened in
          let number : c.was.opened + 1 ≡ g.id.number = ap (λ (i : ScopeId). i.number) same in
          let owner : (told es g.id.owner).opened ≡ (told es p).opened = ap (λ r. (told es r).opened) (ap (λ (i : ScopeId). i.owner) (sym same) ∙ c.named) in
          absurd (omega (arith, known, opened, number, owner)))
          (λ i i'. record {
            id = g.id;
            begun = begun_in_still es (Opens p) g.id q g.begun;
            its = g.its;
            there = ap (λ (x : Bool). if x then Some (new_scope (record { owner = c.was.path; number = c.was.opened + 1 }) w0) else scope g.id a.scopes) i ∙ g.there;
            result = g.result;
            among = g.among;
            path = g.path;
          }) refl

  resume_handed : (v : ℕ) (p : List ℕ) (z : Option ℕ) → IsResume p a b → Handed (es ++ Resume v p z ∷ []) b
  resume_handed v p z c =
      let to : Live = record c.was { receipts = c.was.receipts ++ c.of.book.results ∷ []; stakes = c.next ∷ c.outer; place = Hand c.worker } in
      subst (Handed (es ++ Resume v p z ∷ [])) c.now (unbooked es (Resume v p z) a k h (no_end (Resume v p z) tt) (put_task to a.live)
      (live_put es (Resume v p z) a k h to c.was p c.found c.named (λ id l. live_still es (Resume v p z) a k h p c.was id c.found (subst (λ ss. Last ss id) (sym c.stakes) l))))

  spawn_handed : (p : List ℕ) → IsSpawn does p a b → Handed (es ++ Spawns p ∷ []) b
  spawn_handed p c = subst (Handed (es ++ Spawns p ∷ [])) c.now (unbooked es (Spawns p) a k h (no_end (Spawns p) tt) _ live)
    where
      heads : c.at.inner.scope ∷ map scope_of c.at.outer ≡ map (own p) (told es p).inside ++ base (k.line p)
      heads = ap (map scope_of) (sym c.at.stakes) ∙ (k.tasks p c.at.was c.at.found).stakes

      at : SpawnsAt (es ++ Spawns p ∷ []) es p (child_path c.at.was.path (c.at.was.spawned + 1))
      at = record { later = []; here = refl; numbered = ap (λ r. child_path r (c.at.was.spawned + 1)) c.at.named ∙ ap (λ n. child_path p (n + 1)) (k.tasks p c.at.was c.at.found).spawned }

      begun : BegunIn (es ++ Spawns p ∷ []) c.at.inner.scope (child_path c.at.was.path (c.at.was.spawned + 1))
      begun = by_inside (told es p).inside (k.line p) refl refl heads
        where
          by_inside : (ns : List ℕ) (l : List ScopeId) → (told es p).inside ≡ ns → k.line p ≡ l → c.at.inner.scope ∷ map scope_of c.at.outer ≡ map (own p) ns ++ base l → BegunIn (es ++ Spawns p ∷ []) c.at.inner.scope (child_path c.at.was.path (c.at.was.spawned + 1))
          by_inside (n ∷ ns) l f g e = subst (λ i. BegunIn (es ++ Spawns p ∷ []) i (child_path c.at.was.path (c.at.was.spawned + 1))) (sym (same_head e)) (in_own at f)
          by_inside [] [] f g e = absurd (nil_cons (sym e))
          by_inside [] (d ∷ l) f g e = by_parent (h.live p c.at.was c.at.inner.scope c.at.found (subst (λ ss. Last ss c.at.inner.scope) (sym c.at.stakes) (alone c.at.outer (same_rest e))))
            where
              alone : (ss : List Stake) → map scope_of ss ≡ [] → Last (c.at.inner ∷ ss) c.at.inner.scope
              alone [] e = refl
              alone (s ∷ ss) e = absurd (nil_cons (sym e))

              by_hang : (p ≡ []) ⊎ Hangs es a.live k.line p → c.at.inner.scope.owner ≡ p → ⊥
              by_hang (inl r) o = nil_cons (sym k.no_line ∙ ap k.line (sym r) ∙ g)
              by_hang (inr r) o =
                  let same : r.owner ≡ p = ap (λ (i : ScopeId). i.owner) (same_head (sym r.lined ∙ g) ∙ sym (same_head e)) ∙ o in
                  let n : length r.owner ≡ length p = ap length same in
                  let s = r.shorter in omega (arith, n, s)

              by_parent : (c.at.inner.scope.owner ≡ p) ⊎ BegunIn es c.at.inner.scope p → BegunIn (es ++ Spawns p ∷ []) c.at.inner.scope (child_path c.at.was.path (c.at.was.spawned + 1))
              by_parent (inl o) = absurd (by_hang (k.hangs p c.at.was c.at.found) o)
              by_parent (inr o) = handed_on at f (begun_in_still es (Spawns p) c.at.inner.scope p o)

      live : LiveOk es (Spawns p) a k h (new_task (child_path c.at.was.path (c.at.was.spawned + 1)) c.child (record c.at.inner { weight = c.at.inner.weight / 2 }) c.at.worker
          ∷ put_task (record (did c.at.was (record c.at.inner { weight = c.at.inner.weight - c.at.inner.weight / 2 } ∷ c.at.outer)) { spawned = c.at.was.spawned + 1 }) a.live)
      live q t id f l =
          by_test (λ x. (if x then Some (new_task (child_path c.at.was.path (c.at.was.spawned + 1)) c.child (record c.at.inner { weight = c.at.inner.weight / 2 }) c.at.worker)
          else task q (put_task (record (did c.at.was (record c.at.inner { weight = c.at.inner.weight - c.at.inner.weight / 2 } ∷ c.at.outer)) { spawned = c.at.was.spawned + 1 }) a.live)) ≡ Some t → (id.owner ≡ q) ⊎ BegunIn (es ++ Spawns p ∷ []) id q)
          (same_path (child_path c.at.was.path (c.at.was.spawned + 1)) q)
          (λ g f. inr (subst (λ r. BegunIn (es ++ Spawns p ∷ []) id r) (paths_same _ q g) (subst (λ i. BegunIn (es ++ Spawns p ∷ []) i (child_path c.at.was.path (c.at.was.spawned + 1)))
          (subst (λ (t : Live). Last t.stakes id) (sym (same_Some _ _ f)) l) begun)))
          (λ g f. live_same es (Spawns p) a k h (record (did c.at.was (record c.at.inner { weight = c.at.inner.weight - c.at.inner.weight / 2 } ∷ c.at.outer)) { spawned = c.at.was.spawned + 1 }) c.at.was p c.at.found c.at.named
          (ap (map scope_of) (sym c.at.stakes)) q t id f l) f

  end_handed : (p : List ℕ) → ((q : List ℕ) (t : Live) → task q a.live ≡ Some t → (gives t).path ≡ q) → IsEnd does gives p a b → Handed (es ++ Ends p ∷ []) b
  end_handed p paths c = subst (Handed (es ++ Ends p ∷ [])) c.now (record { live = live; results = results; ended = ended })
    where
      to : Scope
      to = give_back c.at.inner.weight (gives c.at.was ∷ []) c.of.book

      path : (gives c.at.was).path ≡ p
      path = paths p c.at.was c.at.found

      alone : Lone (told es p).inside c.at.outer
      alone = lone p c.at.inner c.at.outer (told es p).inside (k.line p) (ap (map scope_of) (sym c.at.stakes) ∙ (k.tasks p c.at.was c.at.found).stakes) (ap (λ r. same_path r c.at.inner.scope.owner) (sym c.at.named) ∙ c.own)

      begun : BegunIn es c.at.inner.scope p
      begun = by_owner (h.live p c.at.was c.at.inner.scope c.at.found (subst (λ ss. Last ss c.at.inner.scope) (sym (c.at.stakes ∙ ap (λ ss. c.at.inner ∷ ss) alone.no_outer)) refl))
        where
          by_owner : (c.at.inner.scope.owner ≡ p) ⊎ BegunIn es c.at.inner.scope p → BegunIn es c.at.inner.scope p
          by_owner (inr o) = o
          by_owner (inl o) = absurd (not_both (path_is (c.at.named ∙ sym o)) c.own)

      begun' : BegunIn (es ++ Ends p ∷ []) c.at.inner.scope p
      begun' = begun_in_still es (Ends p) c.at.inner.scope p begun

      live : LiveOk es (Ends p) a k h (without_task c.at.was.path a.live)
      live q t id f l =
          by_test (λ x. (id.owner ≡ q) ⊎ BegunIn (es ++ Ends p ∷ []) id q) (same_path c.at.was.path q)
          (λ g. absurd (none-some _ (sym (gone-without_task c.at.was.path a.live k.unique) ∙ ap (λ r. task r (without_task c.at.was.path a.live)) (paths_same c.at.was.path q g) ∙ f)))
          (λ g. live_still es (Ends p) a k h q t id (sym (task-without_task c.at.was.path q a.live (other_path g)) ∙ f) l)

      results : ResultsOk es (Ends p) a k h (put_scope (give_back c.at.inner.weight (gives c.at.was ∷ []) c.of.book) a.scopes)
      results = results_put es (Ends p) a k h c.at.inner.scope c.of.book (give_back c.at.inner.weight (gives c.at.was ∷ []) c.of.book) c.of.found c.of.id
          (each_last (λ (r : TaskResult). BegunIn (es ++ Ends p ∷ []) c.at.inner.scope r.path) c.of.book.results (gives c.at.was) (results_still es (Ends p) a k h c.at.inner.scope c.of.book c.of.found)
          (subst (BegunIn (es ++ Ends p ∷ []) c.at.inner.scope) (sym path) begun'))

      there : scope c.at.inner.scope (put_scope (give_back c.at.inner.weight (gives c.at.was ∷ []) c.of.book) a.scopes) ≡ Some (give_back c.at.inner.weight (gives c.at.was ∷ []) c.of.book)
      there =
          scope-put_scope (give_back c.at.inner.weight (gives c.at.was ∷ []) c.of.book) c.of.book c.at.inner.scope a.scopes (ap (λ i. scope i a.scopes) c.of.id ∙ c.of.found)
          ∙ ap (λ (x : Bool). if x then Some (give_back c.at.inner.weight (gives c.at.was ∷ []) c.of.book) else scope c.at.inner.scope a.scopes) (scope_is c.of.id)

      ended : (q : List ℕ) → Contains (es ++ Ends p ∷ []) (Ends q) → IsKeptIn (es ++ Ends p ∷ []) (put_scope (give_back c.at.inner.weight (gives c.at.was ∷ []) c.of.book) a.scopes) q
      ended q d = by_place (Contains-push_cases es (Ends p) (Ends q) d)
        where
          ends_same : Ends p ≡ Ends q → p ≡ q
          ends_same f = ap path_of f
            where
              path_of : Event → List ℕ
              path_of (Ends r) = r
              path_of x = p

          by_place : Contains es (Ends q) ⊎ (Ends p ≡ Ends q) → IsKeptIn (es ++ Ends p ∷ []) (put_scope (give_back c.at.inner.weight (gives c.at.was ∷ []) c.of.book) a.scopes) q
          by_place (inl f) = kept_put es (Ends p) a.scopes c.at.inner.scope c.of.book (give_back c.at.inner.weight (gives c.at.was ∷ []) c.of.book) (gives c.at.was ∷ []) c.of.found c.of.id refl q (h.ended q f)
          by_place (inr f) = record {
            id = c.at.inner.scope;
            begun = subst (BegunIn (es ++ Ends p ∷ []) c.at.inner.scope) (ends_same f) begun';
            its = give_back c.at.inner.weight (gives c.at.was ∷ []) c.of.book;
            there = there;
            result = gives c.at.was;
            among = Contains-push c.of.book.results (gives c.at.was);
            path = path ∙ ends_same f;
          }

pub event_handed : (does : Live → Option Action) (gives : Live → TaskResult) (w0 : ℕ) (es : List Event) (e : Event) (a b : World) → Kept es a → Handed es a
    → ((q : List ℕ) (t : Live) → task q a.live ≡ Some t → (gives t).path ≡ q) → Becomes does gives w0 e a b → Handed (es ++ e ∷ []) b
event_handed does gives w0 es (Take w p) a b k h paths c = quiet_handed es (Take w p) a k h (no_end (Take w p) tt) p b c
event_handed does gives w0 es (Steal w f p) a b k h paths c = quiet_handed es (Steal w f p) a k h (no_end (Steal w f p) tt) p b c
event_handed does gives w0 es (Steps p) a b k h paths c = quiet_handed es (Steps p) a k h (no_end (Steps p) tt) p b c
event_handed does gives w0 es (Replenish p) a b k h paths c =
    let to : Live = record c.at.was { stakes = record c.at.inner { weight = 1 + w0 } ∷ c.at.outer } in
    subst (Handed (es ++ Replenish p ∷ [])) c.now
    (booked es (Replenish p) a k h (no_end (Replenish p) tt) (put_task to a.live) (live_same es (Replenish p) a k h to c.at.was p c.at.found c.at.named (ap (map scope_of) (sym c.at.stakes)))
    c.at.inner.scope c.of.book (issue w0 c.of.book) c.of.found c.of.id refl)
event_handed does gives w0 es (Spawns p) a b k h paths c = spawn_handed does gives w0 es a b k h p c
event_handed does gives w0 es (Opens p) a b k h paths c = open_handed does gives w0 es a b k h p c
event_handed does gives w0 es (Parks p) a b k h paths c =
    let to : Live = record (did c.at.was (record c.at.inner { weight = 0 } ∷ c.at.outer)) { place = Parked } in
    subst (Handed (es ++ Parks p ∷ [])) c.now
    (booked es (Parks p) a k h (no_end (Parks p) tt) (put_task to a.live) (live_same es (Parks p) a k h to c.at.was p c.at.found c.at.named (ap (map scope_of) (sym c.at.stakes)))
    c.at.inner.scope c.of.book (give_back c.at.inner.weight [] c.of.book) c.of.found c.of.id (append-nil c.of.book.results))
event_handed does gives w0 es (Ends p) a b k h paths c = end_handed does gives w0 es a b k h p paths c
event_handed does gives w0 es (Pass id) a b k h paths c =
    subst (Handed (es ++ Pass id ∷ [])) c.now
    (booked es (Pass id) a k h (no_end (Pass id) tt) a.live (live_still es (Pass id) a k h) id c.book (record c.book { passed = true }) c.found c.same refl)
event_handed does gives w0 es (Resume w p z) a b k h paths c = resume_handed does gives w0 es a b k h w p z c
