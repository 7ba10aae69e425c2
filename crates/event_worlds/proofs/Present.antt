-- The scopes that tasks are in exist, and a task's own scopes are numbered in decreasing order.
use Rattle.std.proofs.Common.{◌≡◌, ℕ, ◌+◌, ◌-◌, ◌/◌, ◌<◌, ◌≤◌, List, [], ◌∷◌, ◌++◌, Option, Some, refl, sym, ap, ◌∙◌}
use Rattle.std.proofs.Common.{subst, inl, inr, arith}
use Rattle.std.specs.Prelude.{Bool, true, ◌⊎◌, drop, if◌then◌else◌}
use Rattle.std.proofs.lemmas.Option.{none-some, same_Some}
use Rattle.task_run.specs.Results.{TaskResult}
use Rattle.task_run.specs.Lists.{Each}
use Rattle.task_run.specs.OwnRun.{Action}
use Rattle.task_run.proofs.SettledResults.{paths_same}
use Rattle.task_run.proofs.Lists.{each_more}
use Rattle.event_worlds.specs.World.{same_path, ScopeId, Stake, Live, Scope, World, Hand, Parked, same_scope}
use Rattle.event_worlds.specs.World.{child_path, task, put_task, without_task, scope, put_scope}
use Rattle.event_worlds.specs.Events.{Event, Take, Steal, Steps, Replenish, Spawns, Opens, Parks, Ends, Pass, Resume}
use Rattle.event_worlds.specs.Events.{issue, give_back, did, new_task, new_scope}
use Rattle.event_worlds.specs.History.{Told, untold, spawned_more, opened_more, left_one, tell, tell_all, told}
use Rattle.event_worlds.proofs.Lookups.{by_test, other_path, scope_is, task-without_task, gone-without_task, Unique}
use Rattle.event_worlds.proofs.Lookups.{scope-put_scope}
use Rattle.event_worlds.proofs.Changes.{IsQuiet, IsAt, Becomes}
use Rattle.event_worlds.proofs.Steps.{put_cases}

-- ---- decreasing numbers
abbrev pub Falls : ℕ → List ℕ → Type 0
Falls b [] = Unit {0}
Falls b (n ∷ ns) = (n < b) × Falls n ns

pub falls_more : (b c : ℕ) (ns : List ℕ) → b ≤ c → Falls b ns → Falls c ns
falls_more b c [] le h = tt
falls_more b c (n ∷ ns) le h = ((let x = h.0 in omega (arith, x, le)), h.1)

falls_drop : (b : ℕ) (ns : List ℕ) → Falls b ns → Falls b (drop 1 ns)
falls_drop b [] h = tt
falls_drop b (n ∷ ns) h = falls_more n b ns (let x = h.0 in omega (arith, x)) h.1

abbrev IsFalling : Told → Type 0
IsFalling t = Falls (t.opened + 1) t.inside

tell_falls : (q : List ℕ) (e : Event) (t : Told) → IsFalling t → IsFalling (tell q e t)
tell_falls q (Spawns p) t h = by_test (λ b. IsFalling (if b then spawned_more t else t)) (same_path p q) (λ f. h) (λ f. h)
tell_falls q (Opens p) t h = by_test (λ b. IsFalling (if b then opened_more t else t)) (same_path p q) (λ f. ((let x : t.opened + 1 < t.opened + 1 + 1 = omega arith in x), h)) (λ f. h)
tell_falls q (Resume w p z) t h = by_test (λ b. IsFalling (if b then left_one t else t)) (same_path p q) (λ f. falls_drop (t.opened + 1) t.inside h) (λ f. h)
tell_falls q (Take w p) t h = h
tell_falls q (Steal w f p) t h = h
tell_falls q (Steps p) t h = h
tell_falls q (Replenish p) t h = h
tell_falls q (Parks p) t h = h
tell_falls q (Ends p) t h = h
tell_falls q (Pass id) t h = h

tell_all_falls : (q : List ℕ) (es : List Event) (t : Told) → IsFalling t → IsFalling (tell_all q es t)
tell_all_falls q [] t h = h
tell_all_falls q (e ∷ es) t h = tell_all_falls q es (tell q e t) (tell_falls q e t h)

-- the scopes that a task has open are numbered in decreasing order
pub told_falls : (es : List Event) (q : List ℕ) → Falls ((told es q).opened + 1) (told es q).inside
told_falls es [] = tell_all_falls [] es (untold []) ((let x : 0 < 0 + 1 = omega arith in x), tt)
told_falls es (j ∷ q) = tell_all_falls (j ∷ q) es (untold (j ∷ q)) tt

-- ---- scopes exist
abbrev pub IsThere : List Scope → Stake → Type 0
IsThere ss s = (r : Scope) × (scope s.scope ss ≡ Some r)

abbrev pub AllThere : List Live → List Scope → Type 0
AllThere ts ss = (q : List ℕ) (t : Live) → task q ts ≡ Some t → Each (IsThere ss) t.stakes

there_put : (to book : Scope) (ss : List Scope) → scope to.id ss ≡ Some book → (s : Stake) → IsThere ss s → IsThere (put_scope to ss) s
there_put to book ss e s h =
    by_test (λ b. scope s.scope (put_scope to ss) ≡ (if b then Some to else scope s.scope ss) → IsThere (put_scope to ss) s) (same_scope to.id s.scope)
    (λ f g. (to, g)) (λ f g. (h.0, g ∙ h.1))
    (scope-put_scope to book s.scope ss e)

there_new : (to : Scope) (ss : List Scope) (s : Stake) → IsThere ss s → IsThere (to ∷ ss) s
there_new to ss s h =
    by_test (λ b. (r : Scope) × ((if b then Some to else scope s.scope ss) ≡ Some r)) (same_scope to.id s.scope) (λ f. (to, refl)) (λ f. h)

-- with unchanged tasks
more_there : (ts : List Live) (ss rs : List Scope) → ((s : Stake) → IsThere ss s → IsThere rs s) → AllThere ts ss → AllThere ts rs
more_there ts ss rs f h q t e = each_more (IsThere ss) (IsThere rs) t.stakes f (h q t e)

put_there : (to was : Live) (path : List ℕ) (ts : List Live) (ss : List Scope) → task path ts ≡ Some was → to.path ≡ path → Each (IsThere ss) to.stakes → AllThere ts ss → AllThere (put_task to ts) ss
put_there to was path ts ss e f k h q t g = by_place (put_cases to was t q ts (ap (λ r. task r ts) f ∙ e) g).here
  where
    by_place : ((to.path ≡ q) × (to ≡ t)) ⊎ ((to.path ≡ q → ⊥) × (task q ts ≡ Some t)) → Each (IsThere ss) t.stakes
    by_place (inl (i, j)) = subst (λ (t : Live). Each (IsThere ss) t.stakes) j k
    by_place (inr (i, j)) = h q t j

module _ (a : World) (h : AllThere a.live a.scopes) where
  at_there : (path : List ℕ) (at : IsAt path a) → Each (IsThere a.scopes) (at.inner ∷ at.outer)
  at_there path at = subst (Each (IsThere a.scopes)) at.stakes (h path at.was at.found)

  abbrev Goes : World → Type 0
  Goes w = AllThere w.live w.scopes

  quiet_there : {does : Live → Option Action} (path : List ℕ) (b : World) → IsQuiet does path a b → Goes b
  quiet_there path b k =
      subst Goes k.now (put_there k.to k.was path a.live a.scopes k.found (k.renamed ∙ k.named) (subst (Each (IsThere a.scopes)) (sym k.stakes) (h path k.was k.found)) h)

  pub event_there : (does : Live → Option Action) (gives : Live → TaskResult) (w0 : ℕ) → Unique a.live → (e : Event) (b : World) → Becomes does gives w0 e a b → AllThere b.live b.scopes
  event_there does gives w0 u (Take w p) b k = quiet_there p b k
  event_there does gives w0 u (Steal w f p) b k = quiet_there p b k
  event_there does gives w0 u (Steps p) b k = quiet_there p b k
  event_there does gives w0 u (Replenish p) b k =
      subst Goes k.now (more_there _ a.scopes _ (there_put (issue w0 k.of.book) k.of.book a.scopes (ap (λ i. scope i a.scopes) k.of.id ∙ k.of.found))
      (put_there (record k.at.was { stakes = record k.at.inner { weight = 1 + w0 } ∷ k.at.outer }) k.at.was p a.live a.scopes k.at.found k.at.named (at_there p k.at) h))
  event_there does gives w0 u (Spawns p) b k = subst Goes k.now live
    where
      live : AllThere (new_task (child_path k.at.was.path (k.at.was.spawned + 1)) k.child (record k.at.inner { weight = k.at.inner.weight / 2 }) k.at.worker
          ∷ put_task (record (did k.at.was (record k.at.inner { weight = k.at.inner.weight - k.at.inner.weight / 2 } ∷ k.at.outer)) { spawned = k.at.was.spawned + 1 }) a.live) a.scopes
      live q t f =
          by_test (λ x. (if x then Some (new_task (child_path k.at.was.path (k.at.was.spawned + 1)) k.child (record k.at.inner { weight = k.at.inner.weight / 2 }) k.at.worker)
          else task q (put_task (record (did k.at.was (record k.at.inner { weight = k.at.inner.weight - k.at.inner.weight / 2 } ∷ k.at.outer)) { spawned = k.at.was.spawned + 1 }) a.live)) ≡ Some t → Each (IsThere a.scopes) t.stakes)
          (same_path (child_path k.at.was.path (k.at.was.spawned + 1)) q)
          (λ g f. subst (λ (t : Live). Each (IsThere a.scopes) t.stakes) (same_Some _ _ f) ((at_there p k.at).0, tt))
          (λ g f. put_there (record (did k.at.was (record k.at.inner { weight = k.at.inner.weight - k.at.inner.weight / 2 } ∷ k.at.outer)) { spawned = k.at.was.spawned + 1 })
          k.at.was p a.live a.scopes k.at.found k.at.named (at_there p k.at) h q t f) f
  event_there does gives w0 u (Opens p) b k =
      subst Goes k.now (put_there (record (did k.was (record { scope = its; weight = w0 } ∷ k.was.stakes)) { opened = k.was.opened + 1 }) k.was p a.live (new_scope its w0 ∷ a.scopes) k.found k.named
      (here, each_more (IsThere a.scopes) (IsThere (new_scope its w0 ∷ a.scopes)) k.was.stakes (there_new (new_scope its w0) a.scopes) (h p k.was k.found))
      (more_there a.live a.scopes (new_scope its w0 ∷ a.scopes) (there_new (new_scope its w0) a.scopes) h))
    where
      its : ScopeId
      its = record { owner = k.was.path; number = k.was.opened + 1 }

      here : IsThere (new_scope (record { owner = k.was.path; number = k.was.opened + 1 }) w0 ∷ a.scopes) (record { scope = record { owner = k.was.path; number = k.was.opened + 1 }; weight = w0 })
      here =
          let i : ScopeId = record { owner = k.was.path; number = k.was.opened + 1 } in
          (new_scope i w0, ap (λ (x : Bool). if x then Some (new_scope i w0) else scope i a.scopes) (scope_is {a = i} refl))
  event_there does gives w0 u (Parks p) b k =
      subst Goes k.now (more_there _ a.scopes _ (there_put (give_back k.at.inner.weight [] k.of.book) k.of.book a.scopes (ap (λ i. scope i a.scopes) k.of.id ∙ k.of.found))
      (put_there (record (did k.at.was (record k.at.inner { weight = 0 } ∷ k.at.outer)) { place = Parked }) k.at.was p a.live a.scopes k.at.found k.at.named (at_there p k.at) h))
  event_there does gives w0 u (Ends p) b k =
      subst Goes k.now (more_there _ a.scopes _ (there_put (give_back k.at.inner.weight (gives k.at.was ∷ []) k.of.book) k.of.book a.scopes (ap (λ i. scope i a.scopes) k.of.id ∙ k.of.found)) live)
    where
      live : AllThere (without_task k.at.was.path a.live) a.scopes
      live q t f =
          by_test (λ x. Each (IsThere a.scopes) t.stakes) (same_path k.at.was.path q)
          (λ g. absurd (none-some _ (sym (gone-without_task k.at.was.path a.live u) ∙ ap (λ r. task r (without_task k.at.was.path a.live)) (paths_same k.at.was.path q g) ∙ f)))
          (λ g. h q t (sym (task-without_task k.at.was.path q a.live (other_path g)) ∙ f))
  event_there does gives w0 u (Pass id) b k =
      subst Goes k.now (more_there a.live a.scopes _ (there_put (record k.book { passed = true }) k.book a.scopes (ap (λ i. scope i a.scopes) k.same ∙ k.found)) h)
  event_there does gives w0 u (Resume w p z) b k =
      subst Goes k.now (put_there (record k.was { receipts = k.was.receipts ++ k.of.book.results ∷ []; stakes = k.next ∷ k.outer; place = Hand k.worker }) k.was p a.live a.scopes k.found k.named
      (subst (Each (IsThere a.scopes)) k.stakes (h p k.was k.found)).1 h)
