-- For any measure of results: what the root's scope holds, together with what is still to come to
-- it, is constant.
use Rattle.std.proofs.Common.{◌≡◌, ℕ, zero, suc, ◌+◌, ◌-◌, ◌/◌, ◌≤◌, List, [], ◌∷◌, ◌++◌, length, Option, Some, None}
use Rattle.std.proofs.Common.{refl, sym, ap, ◌∙◌, subst, inl, inr, arith}
use Rattle.std.proofs.lemmas.List.{append-nil}
use Rattle.std.proofs.lemmas.List.Sums.{sum_by-cons, sum_by_push}
use Rattle.std.specs.Prelude.{Bool, true, false, ◌⊎◌, map, take, drop, slice_get, sum_by, if◌then◌else◌}
use Rattle.std.proofs.lemmas.Option.{none-some, same_Some}
use Rattle.shared_lemmas.proofs.Truths.{not_both}
use Rattle.shared_lemmas.proofs.Lists.{same_head, same_rest}
use Rattle.types.specs.Code.{Codes, Program}
use Rattle.effects.specs.Needs.{Needs}
use Rattle.task_run.specs.Results.{TaskResult}
use Rattle.task_run.specs.Lists.{Each}
use Rattle.task_run.specs.OwnRun.{Start, Action, Step, Spawn, EnterFinish, EndFinish, EndTask, result_of}
use Rattle.task_run.specs.Given.{own}
use Rattle.event_worlds.specs.World.{same_path, ScopeId, Stake, Live, Scope, World, Whereabouts, Hand, Parked}
use Rattle.event_worlds.specs.World.{same_scope, root_scope, child_path, task, put_task, without_task, scope, put_scope}
use Rattle.event_worlds.specs.World.{is_parked}
use Rattle.event_worlds.specs.Events.{Event, Take, Steal, Steps, Replenish, Spawns, Opens, Parks, Ends, Pass, Resume}
use Rattle.event_worlds.specs.Events.{issue, give_back, did, new_task, new_scope, first_world}
use Rattle.event_worlds.specs.History.{told}
use Rattle.event_worlds.proofs.Lookups.{by_test, path_not, scope_is, scopes_same}
use Rattle.event_worlds.proofs.Histories.{nil_cons, nil_snoc}
use Rattle.event_worlds.proofs.Stakes.{scope_of, own as own_scope}
use Rattle.event_worlds.proofs.Changes.{IsQuiet, IsReplenish, IsSpawn, IsOpen, IsPark, IsEnd, IsPass, IsResume, Becomes}
use Rattle.event_worlds.proofs.Kept.{base, Kept}
use Rattle.event_worlds.proofs.Events.{rebooked}
use Rattle.event_worlds.proofs.Scopes.{Lone, lone}
use Rattle.event_worlds.proofs.Once.{root_stays}
use Rattle.event_worlds.proofs.Levels.{depth}
use Rattle.event_worlds.proofs.Direct.{direct}
use Rattle.event_worlds.proofs.OwnTasks.{IsOwnTask, AllOwn, IsAtLevel, truly, nexts, hands, awake_level, next_in_truth}
use Rattle.event_worlds.proofs.OwnTasks.{ends_in_truth, depth_more, at_level}
use Rattle.event_worlds.proofs.Present.{Falls, told_falls}

-- an action that spawns no task
abbrev is_spawn : Action → Bool
is_spawn (Spawn d) = true
is_spawn a = false

begins_none : (a : Action) → is_spawn a ≡ false → (d : Start) → a ≡ Spawn d → ⊥
begins_none a none d e = not_both (ap is_spawn e) none

pub sum_by-each_zero : {A : Type 0} (g : A → ℕ) (xs : List A) → Each (λ x. g x ≡ 0) xs → sum_by g xs ≡ 0
sum_by-each_zero g [] h = refl
sum_by-each_zero g (x ∷ xs) h =
    let a = sum_by-cons g x xs in let b = h.0 in let c = sum_by-each_zero g xs h.1 in omega (arith, a, b, c)

drop_next : {A : Type 0} (xs : List A) (k : ℕ) (x : A) → slice_get xs k ≡ Some x → drop k xs ≡ x ∷ drop (suc k) xs
drop_next [] k x e = absurd (none-some _ e)
drop_next (y ∷ xs) zero x e = ap (λ z. z ∷ xs) (same_Some _ _ e)
drop_next (y ∷ xs) (suc k) x e = drop_next xs k x e

pub sum_by-put_task : (g : Live → ℕ) (to t : Live) (ts : List Live) → task to.path ts ≡ Some t
    → sum_by g (put_task to ts) + g t ≡ sum_by g ts + g to
sum_by-put_task g to t [] e = absurd (none-some _ e)
sum_by-put_task g to t (u ∷ ts) e =
    by_test (λ b. (if b then Some u else task to.path ts) ≡ Some t
    → sum_by g (if b then to ∷ ts else u ∷ put_task to ts) + g t ≡ sum_by g (u ∷ ts) + g to)
    (same_path u.path to.path)
    (λ f e. let a : g u ≡ g t = ap g (same_Some _ _ e) in here a)
    (λ f e. more (sum_by-put_task g to t ts e)) e
  where
    here : g u ≡ g t → sum_by g (to ∷ ts) + g t ≡ sum_by g (u ∷ ts) + g to
    here a = let b = sum_by-cons g to ts in let c = sum_by-cons g u ts in omega (arith, a, b, c)

    more : sum_by g (put_task to ts) + g t ≡ sum_by g ts + g to → sum_by g (u ∷ put_task to ts) + g t ≡ sum_by g (u ∷ ts) + g to
    more h = let b = sum_by-cons g u (put_task to ts) in let c = sum_by-cons g u ts in omega (arith, h, b, c)

pub sum_by-without_task : (g : Live → ℕ) (q : List ℕ) (t : Live) (ts : List Live) → task q ts ≡ Some t
    → sum_by g (without_task q ts) + g t ≡ sum_by g ts
sum_by-without_task g q t [] e = absurd (none-some _ e)
sum_by-without_task g q t (u ∷ ts) e =
    by_test (λ b. (if b then Some u else task q ts) ≡ Some t
    → sum_by g (if b then ts else u ∷ without_task q ts) + g t ≡ sum_by g (u ∷ ts))
    (same_path u.path q)
    (λ f e. let a : g u ≡ g t = ap g (same_Some _ _ e) in here a)
    (λ f e. more (sum_by-without_task g q t ts e)) e
  where
    here : g u ≡ g t → sum_by g ts + g t ≡ sum_by g (u ∷ ts)
    here a = let b = sum_by-cons g u ts in omega (arith, a, b)

    more : sum_by g (without_task q ts) + g t ≡ sum_by g ts → sum_by g (u ∷ without_task q ts) + g t ≡ sum_by g (u ∷ ts)
    more h = let b = sum_by-cons g u (without_task q ts) in let c = sum_by-cons g u ts in omega (arith, h, b, c)

module _ (p : Program) (needs : Codes → Needs) (fresh w0 : ℕ) (root : Start) (nameless : root.path ≡ []) (worth : Start → ℕ) where
  -- the worth that is to come at the level of these actions
  pub coming : Option ℕ → List Action → ℕ
  coming None xs = 0
  coming (Some d) xs = sum_by worth (direct d xs)

  pub coming_is : (d : ℕ) (xs : List Action) → coming (Some d) xs ≡ sum_by worth (direct d xs)
  unfolding coming
  coming_is d xs = refl

  -- one action
  step_coming : (a : Action) (d : ℕ) (rest : List Action) → ((c : Start) → a ≡ Spawn c → ⊥) → coming (Some d) (a ∷ rest) ≡ coming (depth d (a ∷ [])) rest
  unfolding coming
  step_coming Step d rest h = refl
  step_coming (Spawn c) d rest h = absurd (h c refl)
  step_coming EnterFinish d rest h = refl
  step_coming EndFinish zero rest h = refl
  step_coming EndFinish (suc d) rest h = refl
  step_coming EndTask d rest h = refl

  spawn_coming : (c : Start) (rest : List Action) → coming (Some 0) (Spawn c ∷ rest) ≡ worth c + coming (Some 0) rest
  unfolding coming
  spawn_coming c rest = sum_by-cons worth c (direct 0 rest)

  deep_coming : (c : Start) (d : ℕ) (rest : List Action) → coming (Some (suc d)) (Spawn c ∷ rest) ≡ coming (Some (suc d)) rest
  unfolding coming
  deep_coming c d rest = refl

  -- the worth of what a task has still to spawn outside of its own finishes
  pub left : Live → ℕ
  left t = coming (depth 0 (take t.done (truly p needs fresh w0 root nameless t.start))) (drop t.done (truly p needs fresh w0 root nameless t.start))

  -- by its next action
  left_is : (t : Live) (h : IsOwnTask p needs fresh w0 root nameless t) (a : Action) (d : ℕ) → nexts p needs fresh w0 root nameless t ≡ Some a
      → depth 0 (take t.done (truly p needs fresh w0 root nameless t.start)) ≡ Some d → left t ≡ coming (Some d) (a ∷ drop (suc t.done) (truly p needs fresh w0 root nameless t.start))
  unfolding left
  left_is t h a d e f =
      ap (λ o. coming o (drop t.done (truly p needs fresh w0 root nameless t.start))) f
      ∙ ap (coming (Some d)) (drop_next (truly p needs fresh w0 root nameless t.start) t.done a (next_in_truth p needs fresh w0 root nameless t h a e))

  left_after : (t to : Live) (h : IsOwnTask p needs fresh w0 root nameless t) (a : Action) (d : ℕ) → nexts p needs fresh w0 root nameless t ≡ Some a
      → depth 0 (take t.done (truly p needs fresh w0 root nameless t.start)) ≡ Some d → to.start ≡ t.start → to.done ≡ t.done + 1
      → left to ≡ coming (depth d (a ∷ [])) (drop (suc t.done) (truly p needs fresh w0 root nameless t.start))
  unfolding left
  left_after t to h a d e f s n =
      let k : t.done + 1 ≡ suc t.done = omega arith in
      ap (λ x. coming (depth 0 (take to.done (truly p needs fresh w0 root nameless x))) (drop to.done (truly p needs fresh w0 root nameless x))) s
      ∙ ap (λ n. coming (depth 0 (take n (truly p needs fresh w0 root nameless t.start))) (drop n (truly p needs fresh w0 root nameless t.start))) n
      ∙ ap (λ o. coming o (drop (t.done + 1) (truly p needs fresh w0 root nameless t.start))) (depth_more p needs fresh w0 root nameless t h a d e f)
      ∙ ap (λ n. coming (depth d (a ∷ [])) (drop n (truly p needs fresh w0 root nameless t.start))) k

  -- a step that spawns nothing
  left_same : (t to : Live) (h : IsOwnTask p needs fresh w0 root nameless t) (a : Action) (d : ℕ) → nexts p needs fresh w0 root nameless t ≡ Some a
      → depth 0 (take t.done (truly p needs fresh w0 root nameless t.start)) ≡ Some d → to.start ≡ t.start → to.done ≡ t.done + 1 → ((c : Start) → a ≡ Spawn c → ⊥) → left to ≡ left t
  left_same t to h a d e f s n no_spawn =
      left_after t to h a d e f s n ∙ sym (step_coming a d _ no_spawn) ∙ sym (left_is t h a d e f)

  -- an event keeps what is to come of a task that it doesn't move forward
  left_still : (t to : Live) → to.start ≡ t.start → to.done ≡ t.done → left to ≡ left t
  unfolding left
  left_still t to s n =
      ap (λ x. coming (depth 0 (take to.done (truly p needs fresh w0 root nameless x))) (drop to.done (truly p needs fresh w0 root nameless x))) s
      ∙ ap (λ n. coming (depth 0 (take n (truly p needs fresh w0 root nameless t.start))) (drop n (truly p needs fresh w0 root nameless t.start))) n

  left_first : (c : Start) (t : Live) → t.start ≡ c → t.done ≡ 0 → left t ≡ coming (Some 0) (truly p needs fresh w0 root nameless c)
  unfolding left
  left_first c t s n =
      ap (λ x. coming (depth 0 (take t.done (truly p needs fresh w0 root nameless x))) (drop t.done (truly p needs fresh w0 root nameless x))) s
      ∙ ap (λ n. coming (depth 0 (take n (truly p needs fresh w0 root nameless c))) (drop n (truly p needs fresh w0 root nameless c))) n

  end_coming : (rest : List Action) (d : ℕ) → coming (Some d) (EndTask ∷ rest) ≡ 0
  unfolding coming
  end_coming rest d = refl

  module _ (f : TaskResult → ℕ) (all_of : (c : Start) → worth c ≡ f (result_of (own p needs fresh c)) + coming (Some 0) (truly p needs fresh w0 root nameless c)) where
    -- whether the last scope is the root's
    abbrev pub based : List Stake → Bool
    based [] = false
    based (s ∷ []) = same_scope s.scope root_scope
    based (s ∷ r ∷ more) = based (r ∷ more)

    based_same : (ss rs : List Stake) → map scope_of ss ≡ map scope_of rs → based ss ≡ based rs
    based_same [] [] e = refl
    based_same [] (r ∷ rs) e = absurd (nil_cons e)
    based_same (s ∷ ss) [] e = absurd (nil_cons (sym e))
    based_same (s ∷ []) (r ∷ []) e = ap (λ i. same_scope i root_scope) (same_head e)
    based_same (s ∷ []) (r ∷ t ∷ rs) e = absurd (nil_cons (same_rest e))
    based_same (s ∷ t ∷ ss) (r ∷ []) e = absurd (nil_cons (sym (same_rest e)))
    based_same (s ∷ t ∷ ss) (r ∷ u ∷ rs) e = based_same (t ∷ ss) (u ∷ rs) (same_rest e)

    abbrev pub reward : Live → ℕ
    reward t = if same_path t.path [] then 0 else f (result_of (own p needs fresh t.start))

    -- the worth that a task still contributes to the root's scope
    abbrev pub share : Live → ℕ
    share t = if based t.stakes then reward t + left t else 0

    share_same : (t to : Live) → to.path ≡ t.path → to.start ≡ t.start → left to ≡ left t → based to.stakes ≡ based t.stakes → share to ≡ share t
    share_same t to a b c d =
        ap (λ x. if x then reward to + left to else 0) d
        ∙ ap (λ q. if based t.stakes then (if same_path q [] then 0 else f (result_of (own p needs fresh to.start))) + left to else 0) a
        ∙ ap (λ s. if based t.stakes then (if same_path t.path [] then 0 else f (result_of (own p needs fresh s))) + left to else 0) b
        ∙ ap (λ n. if based t.stakes then reward t + n else 0) c

    -- what the root's scope holds, together with what is to come, is what the root's own run spawns
    abbrev pub Balanced : List Live → List Scope → Type 0
    Balanced ts ss = (s : Scope) → scope root_scope ss ≡ Some s → sum_by f s.results + sum_by share ts ≡ coming (Some 0) (truly p needs fresh w0 root nameless root)

    same_results : (x : ScopeId) (book to : Scope) (ts : List Live) (ss : List Scope) → scope x ss ≡ Some book → to.id ≡ x → to.results ≡ book.results → Balanced ts ss → Balanced ts (put_scope to ss)
    same_results x book to ts ss e g same h s i = by_place (rebooked x book to ss root_scope s e g i)
      where
        by_place : ((x ≡ root_scope) × (to ≡ s)) ⊎ ((same_scope x root_scope ≡ false) × (scope root_scope ss ≡ Some s)) → sum_by f s.results + sum_by share ts ≡ coming (Some 0) (truly p needs fresh w0 root nameless root)
        by_place (inl (u, v)) =
            ap (λ (r : Scope). sum_by f r.results + sum_by share ts) (sym v) ∙ ap (λ rs. sum_by f rs + sum_by share ts) same ∙ h book (ap (λ y. scope y ss) (sym u) ∙ e)
        by_place (inr (u, v)) = h s v

    put_balanced : (to was : Live) (path : List ℕ) (ts : List Live) (ss : List Scope) → task path ts ≡ Some was → to.path ≡ path → share to ≡ share was → Balanced ts ss → Balanced (put_task to ts) ss
    put_balanced to was path ts ss e g same h s i =
        let a = sum_by-put_task share to was ts (ap (λ r. task r ts) g ∙ e) in
        let b = h s i in
        omega (arith, a, b, same)

    module _ (es : List Event) (a : World) (k : Kept es a) (o : AllOwn p needs fresh w0 root nameless a) (h : Balanced a.live a.scopes) where
      abbrev Goes : World → Type 0
      Goes w = Balanced w.live w.scopes

      level_of : (ss : List Stake) (t : Live) → is_parked t.place ≡ false → IsAtLevel p needs fresh w0 root nameless t.place ss t → (d : ℕ) × (depth 0 (take t.done (truly p needs fresh w0 root nameless t.start)) ≡ Some d)
      level_of [] t e l = absurd l
      level_of (s ∷ outer) t e l = (length outer, awake_level p needs fresh w0 root nameless t.place s outer t e l)

      quiet_balanced : (path : List ℕ) (b : World) → IsQuiet (λ t. nexts p needs fresh w0 root nameless t) path a b → Goes b
      quiet_balanced path b c =
          subst Goes c.now (put_balanced c.to c.was path a.live a.scopes c.found (c.renamed ∙ c.named)
          (share_same c.was c.to c.renamed c.start (by_way c.way) (based_same c.to.stakes c.was.stakes (ap (map scope_of) c.stakes))) h)
        where
          by_way : (c.to.done ≡ c.was.done) ⊎ ((nexts p needs fresh w0 root nameless c.was ≡ Some Step) × (c.to.done ≡ c.was.done + 1)) → left c.to ≡ left c.was
          by_way (inl e) = left_still c.was c.to c.start e
          by_way (inr (e, n)) =
              let its = o.tasks path c.was c.found in
              let l = level_of c.was.stakes c.was c.was_awake its.level in
              left_same c.was c.to its Step l.0 e l.1 c.start n (begins_none Step refl)

      replenish_balanced : (path : List ℕ) (b : World) → IsReplenish w0 path a b → Goes b
      replenish_balanced path b c =
          let to : Live = record c.at.was { stakes = record c.at.inner { weight = 1 + w0 } ∷ c.at.outer } in
          subst Goes c.now (same_results c.at.inner.scope c.of.book (issue w0 c.of.book) (put_task to a.live) a.scopes c.of.found c.of.id refl
          (put_balanced to c.at.was path a.live a.scopes c.at.found c.at.named (share_same c.at.was to refl refl (left_still c.at.was to refl refl) (based_same to.stakes c.at.was.stakes (ap (map scope_of) (sym c.at.stakes)))) h))

      park_balanced : (path : List ℕ) (b : World) → IsPark (λ t. nexts p needs fresh w0 root nameless t) path a b → Goes b
      park_balanced path b c =
          let to : Live = record (did c.at.was (record c.at.inner { weight = 0 } ∷ c.at.outer)) { place = Parked } in
          subst Goes c.now (same_results c.at.inner.scope c.of.book (give_back c.at.inner.weight [] c.of.book) (put_task to a.live) a.scopes c.of.found c.of.id (append-nil c.of.book.results)
          (put_balanced to c.at.was path a.live a.scopes c.at.found c.at.named
          (share_same c.at.was to refl refl (left_same c.at.was to (o.tasks path c.at.was c.at.found) EndFinish (length c.at.outer) c.next (at_level p needs fresh w0 root nameless a o path c.at) refl refl (begins_none EndFinish refl))
          (based_same to.stakes c.at.was.stakes (ap (map scope_of) (sym c.at.stakes)))) h))

      pass_balanced : (id : ScopeId) (b : World) → IsPass id a b → Goes b
      pass_balanced id b c = subst Goes c.now (same_results id c.book (record c.book { passed = true }) a.live a.scopes c.found c.same refl h)

      resume_balanced : (path : List ℕ) (b : World) → IsResume path a b → Goes b
      resume_balanced path b c =
          let to : Live = record c.was { receipts = c.was.receipts ++ c.of.book.results ∷ []; stakes = c.next ∷ c.outer; place = Hand c.worker } in
          subst Goes c.now (put_balanced to c.was path a.live a.scopes c.found c.named (share_same c.was to refl refl (left_still c.was to refl refl) (ap based (sym c.stakes))) h)

      based_more : (x : Stake) (ss : List Stake) (t : Live) (w : Whereabouts) → IsAtLevel p needs fresh w0 root nameless w ss t → based (x ∷ ss) ≡ based ss
      based_more x [] t w l = absurd l
      based_more x (s ∷ ss) t w l = refl

      open_balanced : (path : List ℕ) (b : World) → IsOpen (λ t. nexts p needs fresh w0 root nameless t) w0 path a b → Goes b
      open_balanced path b c =
          let id : ScopeId = record { owner = c.was.path; number = c.was.opened + 1 } in
          let to : Live = record (did c.was (record { scope = id; weight = w0 } ∷ c.was.stakes)) { opened = c.was.opened + 1 } in
          let its = o.tasks path c.was c.found in
          let l = level_of c.was.stakes c.was c.awake its.level in
          let put = put_balanced to c.was path a.live a.scopes c.found c.named
          (share_same c.was to refl refl (left_same c.was to its EnterFinish l.0 c.next l.1 refl refl (begins_none EnterFinish refl)) (based_more (record { scope = id; weight = w0 }) c.was.stakes c.was c.was.place its.level)) h in
          subst Goes c.now (λ s e.
          by_test (λ x. (if x then Some (new_scope id w0) else scope root_scope a.scopes) ≡ Some s → sum_by f s.results + sum_by share (put_task to a.live) ≡ coming (Some 0) (truly p needs fresh w0 root nameless root))
          (same_scope id root_scope)
          (λ g e. let n : c.was.opened + 1 ≡ 0 = ap (λ (i : ScopeId). i.number) (scopes_same id root_scope g) in absurd (omega (arith, n)))
          (λ g e. put s e) e)

      module _ (path : List ℕ) (b : World) (c : IsSpawn (λ t. nexts p needs fresh w0 root nameless t) path a b) where
        abbrev kid : Live
        kid = new_task (child_path c.at.was.path (c.at.was.spawned + 1)) c.child (record c.at.inner { weight = c.at.inner.weight / 2 }) c.at.worker

        abbrev to : Live
        to = record (did c.at.was (record c.at.inner { weight = c.at.inner.weight - c.at.inner.weight / 2 } ∷ c.at.outer)) { spawned = c.at.was.spawned + 1 }

        its : IsOwnTask p needs fresh w0 root nameless c.at.was
        its = o.tasks path c.at.was c.at.found

        at_depth : depth 0 (take c.at.was.done (truly p needs fresh w0 root nameless c.at.was.start)) ≡ Some (length c.at.outer)
        at_depth = at_level p needs fresh w0 root nameless a o path c.at

        kid_worth : reward kid + left kid ≡ worth c.child
        kid_worth =
            let n : same_path (child_path c.at.was.path (c.at.was.spawned + 1)) [] ≡ false = path_not _ [] (λ e. nil_snoc c.at.was.path (c.at.was.spawned + 1) [] (sym e)) in
            ap (λ x. (if x then 0 else f (result_of (own p needs fresh c.child))) + left kid) n
            ∙ ap (λ m. f (result_of (own p needs fresh c.child)) + m) (left_first c.child kid refl refl) ∙ sym (all_of c.child)

        -- it spawns for its parent's scope
        spawn_flat : c.at.outer ≡ [] → share kid + share to ≡ share c.at.was
        spawn_flat e =
            let d0 = at_depth ∙ ap (λ ss. Some (length ss)) e in
            let was = left_is c.at.was its (Spawn c.child) 0 c.next d0 ∙ spawn_coming c.child _ in
            let now = left_after c.at.was to its (Spawn c.child) 0 c.next d0 refl refl in
            let more : left c.at.was ≡ worth c.child + left to = was ∙ ap (λ n. worth c.child + n) (sym now) in
            let b1 : based to.stakes ≡ same_scope c.at.inner.scope root_scope = ap (λ ss. based (record c.at.inner { weight = c.at.inner.weight - c.at.inner.weight / 2 } ∷ ss)) e in
            let b2 : based c.at.was.stakes ≡ same_scope c.at.inner.scope root_scope = ap based (c.at.stakes ∙ ap (λ ss. c.at.inner ∷ ss) e) in
            ap (λ x. share kid + (if x then reward to + left to else 0)) b1
            ∙ by_base (same_scope c.at.inner.scope root_scope) more
            ∙ sym (ap (λ x. if x then reward c.at.was + left c.at.was else 0) b2)
          where
            by_base : (x : Bool) → left c.at.was ≡ worth c.child + left to → (if x then reward kid + left kid else 0) + (if x then reward to + left to else 0) ≡ (if x then reward c.at.was + left c.at.was else 0)
            by_base true m = let k = kid_worth in omega (arith, k, m)
            by_base false m = omega arith

        -- or for a scope of its own
        spawn_deep : (r : Stake) (more : List Stake) → c.at.outer ≡ r ∷ more → share kid + share to ≡ share c.at.was
        spawn_deep r more e =
            let d1 = at_depth ∙ ap (λ ss. Some (length ss)) e in
            let was = left_is c.at.was its (Spawn c.child) (suc (length more)) c.next d1 ∙ deep_coming c.child (length more) _ in
            let now = left_after c.at.was to its (Spawn c.child) (suc (length more)) c.next d1 refl refl in
            let same = share_same c.at.was to refl refl (now ∙ sym was) (based_same to.stakes c.at.was.stakes (ap (map scope_of) (sym c.at.stakes))) in
            let none = ap (λ x. if x then reward kid + left kid else 0) not_root_scope in
            omega (arith, same, none)
          where
            heads : c.at.inner.scope ∷ r.scope ∷ map scope_of more ≡ map (own_scope path) (told es path).inside ++ base (k.line path)
            heads = sym (ap (map scope_of) (c.at.stakes ∙ ap (λ ss. c.at.inner ∷ ss) e)) ∙ (k.tasks path c.at.was c.at.found).stakes

            differs : c.at.inner.scope ≡ root_scope → ⊥
            differs g = by_inside (told es path).inside (k.line path) refl heads (told_falls es path)
              where
                by_inside : (ns : List ℕ) (l : List ScopeId) → k.line path ≡ l → c.at.inner.scope ∷ r.scope ∷ map scope_of more ≡ map (own_scope path) ns ++ base l → Falls ((told es path).opened + 1) ns → ⊥
                by_inside [] [] i j x = nil_cons (sym j)
                by_inside [] (d ∷ l) i j x = nil_cons (sym (same_rest j))
                by_inside (n ∷ m ∷ ns) l i j x =
                    let zero_is : n ≡ 0 = ap (λ (i : ScopeId). i.number) (sym (same_head j) ∙ g) in
                    let y = x.1.0 in omega (arith, zero_is, y)
                by_inside (n ∷ []) l i j x =
                    let root_is : path ≡ [] = ap (λ (i : ScopeId). i.owner) (sym (same_head j) ∙ g) in
                    let none : base l ≡ [] = ap base (sym i ∙ ap k.line root_is ∙ k.no_line) in
                    nil_cons (sym (same_rest j ∙ none))

            not_root_scope : same_scope c.at.inner.scope root_scope ≡ false
            not_root_scope = by_test (λ x. same_scope c.at.inner.scope root_scope ≡ x → same_scope c.at.inner.scope root_scope ≡ false) (same_scope c.at.inner.scope root_scope)
                (λ g i. absurd (differs (scopes_same c.at.inner.scope root_scope g))) (λ g i. g) refl

        spawn_shares : (ss : List Stake) → c.at.outer ≡ ss → share kid + share to ≡ share c.at.was
        spawn_shares [] e = spawn_flat e
        spawn_shares (r ∷ more) e = spawn_deep r more e

        spawn_balanced : Goes b
        spawn_balanced = subst Goes c.now (λ s e.
            let x = sum_by-put_task share to c.at.was a.live (ap (λ r. task r a.live) c.at.named ∙ c.at.found) in
            let y = spawn_shares c.at.outer refl in
            let z = h s e in
            with_kid s x y z)
          where
            with_kid : (s : Scope) → sum_by share (put_task to a.live) + share c.at.was ≡ sum_by share a.live + share to → share kid + share to ≡ share c.at.was
                → sum_by f s.results + sum_by share a.live ≡ coming (Some 0) (truly p needs fresh w0 root nameless root)
                → sum_by f s.results + sum_by share (kid ∷ put_task to a.live) ≡ coming (Some 0) (truly p needs fresh w0 root nameless root)
            with_kid s x y z =
                let v = sum_cons kid (put_task to a.live) in omega (arith, x, y, z, v)
              where
                sum_cons : (t : Live) (ts : List Live) → sum_by share (t ∷ ts) ≡ share t + sum_by share ts
                sum_cons t ts = sum_by-cons share t ts

      module _ (path : List ℕ) (b : World) (c : IsEnd (λ t. nexts p needs fresh w0 root nameless t) (λ t. hands p needs fresh w0 root nameless t) path a b) where
        ends_lone : Lone (told es path).inside c.at.outer
        ends_lone = lone path c.at.inner c.at.outer (told es path).inside (k.line path) (ap (map scope_of) (sym c.at.stakes) ∙ (k.tasks path c.at.was c.at.found).stakes)
            (ap (λ r. same_path r c.at.inner.scope.owner) (sym c.at.named) ∙ c.own)

        end_depth : depth 0 (take c.at.was.done (truly p needs fresh w0 root nameless c.at.was.start)) ≡ Some (length c.at.outer)
        end_depth = at_level p needs fresh w0 root nameless a o path c.at

        -- its share is its result
        end_share : share c.at.was ≡ (if same_scope c.at.inner.scope root_scope then f (hands p needs fresh w0 root nameless c.at.was) else 0)
        end_share =
            let its = o.tasks path c.at.was c.at.found in
            let base_is : based c.at.was.stakes ≡ same_scope c.at.inner.scope root_scope = ap based (c.at.stakes ∙ ap (λ ss. c.at.inner ∷ ss) ends_lone.no_outer) in
            let n : same_path c.at.was.path [] ≡ false = path_not c.at.was.path [] (λ e. root_stays es a k c (sym c.at.named ∙ e)) in
            let none : left c.at.was ≡ 0 = left_is c.at.was its EndTask (length c.at.outer) c.next end_depth ∙ end_coming _ (length c.at.outer) in
            let same : result_of (own p needs fresh c.at.was.start) ≡ hands p needs fresh w0 root nameless c.at.was =
            sym (ap result_of (ends_in_truth p needs fresh w0 root nameless c.at.was its EndTask (length c.at.outer) c.next end_depth refl)) in
            ap (λ x. if x then reward c.at.was + left c.at.was else 0) base_is
            ∙ ap (λ m. if same_scope c.at.inner.scope root_scope then m else 0)
            (ap (λ x. (if x then 0 else f (result_of (own p needs fresh c.at.was.start))) + left c.at.was) n ∙ ap (λ m. f (result_of (own p needs fresh c.at.was.start)) + m) none ∙ plus_none _ ∙ ap f same)
          where
            plus_none : (n : ℕ) → n + 0 ≡ n
            plus_none n = omega arith

        end_balanced : Goes b
        end_balanced = subst Goes c.now (λ s e. by_place s (rebooked c.at.inner.scope c.of.book (give_back c.at.inner.weight (hands p needs fresh w0 root nameless c.at.was ∷ []) c.of.book) a.scopes root_scope s c.of.found c.of.id e))
          where
            without : sum_by share (without_task c.at.was.path a.live) + share c.at.was ≡ sum_by share a.live
            without = sum_by-without_task share c.at.was.path c.at.was a.live (ap (λ r. task r a.live) c.at.named ∙ c.at.found)

            by_place : (s : Scope) → ((c.at.inner.scope ≡ root_scope) × (give_back c.at.inner.weight (hands p needs fresh w0 root nameless c.at.was ∷ []) c.of.book ≡ s)) ⊎ ((same_scope c.at.inner.scope root_scope ≡ false) × (scope root_scope a.scopes ≡ Some s))
                → sum_by f s.results + sum_by share (without_task c.at.was.path a.live) ≡ coming (Some 0) (truly p needs fresh w0 root nameless root)
            by_place s (inl (u, v)) =
                let x = ap (λ (r : Scope). sum_by f r.results) (sym v) ∙ sum_by_push f c.of.book.results (hands p needs fresh w0 root nameless c.at.was) in
                let y = end_share ∙ ap (λ z. if z then f (hands p needs fresh w0 root nameless c.at.was) else 0) (scope_is u) in
                let z = h c.of.book (ap (λ i. scope i a.scopes) (sym u) ∙ c.of.found) in
                let v = without in
                omega (arith, x, y, z, v)
            by_place s (inr (u, v)) =
                let y = end_share ∙ ap (λ z. if z then f (hands p needs fresh w0 root nameless c.at.was) else 0) u in
                let z = h s v in
                let x = without in
                omega (arith, x, y, z)

      pub event_balanced : (e : Event) (b : World) → Becomes (λ t. nexts p needs fresh w0 root nameless t) (λ t. hands p needs fresh w0 root nameless t) w0 e a b → Balanced b.live b.scopes
      event_balanced (Take w q) b c = quiet_balanced q b c
      event_balanced (Steal w g q) b c = quiet_balanced q b c
      event_balanced (Steps q) b c = quiet_balanced q b c
      event_balanced (Replenish q) b c = replenish_balanced q b c
      event_balanced (Spawns q) b c = spawn_balanced q b c
      event_balanced (Opens q) b c = open_balanced q b c
      event_balanced (Parks q) b c = park_balanced q b c
      event_balanced (Ends q) b c = end_balanced q b c
      event_balanced (Pass id) b c = pass_balanced id b c
      event_balanced (Resume w q z) b c = resume_balanced q b c

    -- ---- all lists
    module _ (least : 1 ≤ w0) where
      pub first_balanced : Balanced (first_world w0 root).live (first_world w0 root).scopes
      first_balanced s e =
          let t : Live = new_task [] root (record { scope = root_scope; weight = w0 }) 0 in
          let g = left_first root t refl refl in
          let z : sum_by f s.results ≡ 0 = ap (λ (r : Scope). sum_by f r.results) (sym (same_Some _ _ e)) in
          omega (arith, z, g)

  -- nothing is to come if no finish is open any more
  pub none_left : (t : Live) → depth 0 (take t.done (truly p needs fresh w0 root nameless t.start)) ≡ None → left t ≡ 0
  unfolding left coming
  none_left t e = ap (λ o. coming o (drop t.done (truly p needs fresh w0 root nameless t.start))) e
