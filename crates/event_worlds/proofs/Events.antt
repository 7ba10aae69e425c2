-- Each kind of event keeps the facts about a world.
use Rattle.std.proofs.Common.{◌≡◌, ℕ, ◌+◌, ◌<◌, ◌≤◌, List, [], ◌∷◌, ◌++◌, Option, Some, refl, sym, ap, ◌∙◌, subst}
use Rattle.std.proofs.Common.{inl, inr, arith}
use Rattle.std.specs.Prelude.{Bool, true, false, ◌⊎◌, map, if◌then◌else◌}
use Rattle.std.proofs.lemmas.Option.{same_Some}
use Rattle.task_run.specs.Lists.{Each}
use Rattle.task_run.specs.OwnRun.{Action}
use Rattle.task_run.proofs.SettledResults.{paths_same}
use Rattle.event_worlds.specs.World.{ScopeId, Stake, Live, Scope, World, Parked, same_scope, task, put_task, scope}
use Rattle.event_worlds.specs.World.{put_scope, weight_in, held}
use Rattle.event_worlds.specs.Events.{Event, Spawns, issue, give_back, did}
use Rattle.event_worlds.specs.History.{Told, told}
use Rattle.event_worlds.proofs.Lookups.{by_test, scope_is, scopes_same, each_task, held-put_task, held_least}
use Rattle.event_worlds.proofs.Lookups.{scope-put_scope}
use Rattle.event_worlds.proofs.Histories.{told_more}
use Rattle.event_worlds.proofs.Stakes.{scope_of, own, IsPositive, Weighty, weighty_awake, awake_weighty}
use Rattle.event_worlds.proofs.Stakes.{weight_in-cons_same, weight_in-other_weight}
use Rattle.event_worlds.proofs.Changes.{IsQuiet, IsAt, IsIn, IsReplenish, IsPark, IsPass}
use Rattle.event_worlds.proofs.Kept.{IsTold, IsKnown, ScopeOk, Kept}
use Rattle.event_worlds.proofs.Steps.{kept_by, put_change, known_more, all_known_more, scope_still}

abbrev pub in_scope : ScopeId → Stake → (w : ℕ) → ℕ
in_scope id s w = if same_scope s.scope id then w else 0

pub in_scope_same : (s : Stake) (w : ℕ) → in_scope s.scope s w ≡ w
in_scope_same s w = ap (λ (b : Bool). if b then w else 0) (scope_is {a = s.scope} refl)

pub in_scope_other : (id : ScopeId) (s : Stake) (w : ℕ) → same_scope s.scope id ≡ false → in_scope id s w ≡ 0
in_scope_other id s w e = ap (λ (b : Bool). if b then w else 0) e

-- a task's innermost weight changes
pub reweighed : (to was : Live) (s : Stake) (outer : List Stake) (w : ℕ) (ts : List Live) (id : ScopeId) → task to.path ts ≡ Some was → was.stakes ≡ s ∷ outer → to.stakes ≡ record s { weight = w } ∷ outer
    → held id (put_task to ts) + in_scope id s s.weight ≡ held id ts + in_scope id s w
reweighed to was s outer w ts id e f g =
    let h = held-put_task id to was ts e in
    let a : weight_in id was.stakes ≡ weight_in id (s ∷ outer) = ap (weight_in id) f in
    let b : weight_in id to.stakes ≡ weight_in id (record s { weight = w } ∷ outer) = ap (weight_in id) g in
    let c = weight_in-other_weight id s w outer in
    omega (arith, h, a, b, c)

-- a book changes
pub rebooked : (x : ScopeId) (book to : Scope) (ss : List Scope) (id : ScopeId) (s : Scope) → scope x ss ≡ Some book → to.id ≡ x → scope id (put_scope to ss) ≡ Some s
    → ((x ≡ id) × (to ≡ s)) ⊎ ((same_scope x id ≡ false) × (scope id ss ≡ Some s))
rebooked x book to ss id s e f g =
    by_test (λ b. (if b then Some to else scope id ss) ≡ Some s → ((x ≡ id) × (to ≡ s)) ⊎ ((same_scope x id ≡ false) × (scope id ss ≡ Some s))) (same_scope to.id id)
    (λ h i. inl (sym f ∙ scopes_same to.id id h, same_Some _ _ i))
    (λ h i. inr (ap (λ y. same_scope y id) (sym f) ∙ h, i))
    (sym (scope-put_scope to book id ss (ap (λ y. scope y ss) f ∙ e)) ∙ g)

no_known : (es : List Event) (id : ScopeId) (ss : List Stake) → Each (IsKnown es) ss → (told es id.owner).opened < id.number → weight_in id ss ≡ 0
no_known es id [] h lt = refl
no_known es id (s ∷ ss) h lt = both (same_scope s.scope id) refl (no_known es id ss h.1 lt)
  where
    both : (b : Bool) → same_scope s.scope id ≡ b → weight_in id ss ≡ 0 → (if b then s.weight else 0) + weight_in id ss ≡ 0
    both true e f =
        let i : IsKnown es s = h.0 in
        let j : id.number ≤ (told es id.owner).opened = subst (λ (x : ScopeId). x.number ≤ (told es x.owner).opened) (scopes_same s.scope id e) i in
        absurd (omega (arith, j, lt))
    both false e f = omega (arith, f)

-- no task is in a scope that wasn't opened
pub none_held : (es : List Event) (id : ScopeId) (ts : List Live) → Each (λ (t : Live). Each (IsKnown es) t.stakes) ts → (told es id.owner).opened < id.number → held id ts ≡ 0
none_held es id [] h lt = refl
none_held es id (t ∷ ts) h lt =
    let a = no_known es id t.stakes h.0 lt in
    let b = none_held es id ts h.1 lt in
    omega (arith, a, b)

module _ (es : List Event) (e : Event) (a : World) (k : Kept es a) where
  abbrev es' : List Event
  es' = es ++ e ∷ []

  pub task_known : (q : List ℕ) (t : Live) → task q a.live ≡ Some t → Each (IsKnown es) t.stakes
  task_known q t f = each_task (λ (t : Live). Each (IsKnown es) t.stakes) q a.live t k.known f

  pub opened_still : (id : ScopeId) → id.number ≤ (told es id.owner).opened → id.number ≤ (told es' id.owner).opened
  opened_still id h = let m = (told_more es e id.owner).opened in omega (arith, h, m)

  -- ---- events that change nothing of scopes and children
  module _ (same : (q : List ℕ) → told es' q ≡ told es q) (no_spawn : (o : List ℕ) → e ≡ Spawns o → ⊥) where
    as_told : (p q : List ℕ) (t : Live) → q ≡ p → task p a.live ≡ Some t → IsTold (told es' q) (k.line q) q t
    as_told p q t f g = subst (λ x. IsTold x (k.line q) q t) (sym (same q)) (k.tasks q t (subst (λ r. task r a.live ≡ Some t) (sym f) g))

    same_inside : (q : List ℕ) (m : ℕ) (top low : List ℕ) → (told es q).inside ≡ top ++ m ∷ low → 1 ≤ held (own q m) a.live → (up : List ℕ) × ((told es' q).inside ≡ up ++ m ∷ low)
    same_inside q m top low f h = (top, ap (λ (x : Told). x.inside) (same q) ∙ f)

    pub quiet_kept : {does : Live → Option Action} (path : List ℕ) (b : World) → IsQuiet does path a b → Kept es' b
    quiet_kept path b h =
        subst (Kept es') h.now (kept_by es e a k no_spawn (record a { live = put_task to a.live }) (put_change es e a k to a.scopes (record {
          was = was;
          found = found;
          others = λ q n. same q;
          tells = tells;
          inside = same_inside to.path;
          known = subst (Each (IsKnown es')) (sym h.stakes) (known_more es e was.stakes (task_known path was h.found));
          scopes = λ id s f. scope_still es e a.live (put_task to a.live) id s (weighs id) (k.scopes id s f);
        })))
      where
        was : Live
        was = h.was

        to : Live
        to = h.to

        here : h.to.path ≡ path
        here = h.renamed ∙ h.named

        found : task h.to.path a.live ≡ Some h.was
        found = ap (λ r. task r a.live) here ∙ h.found

        tells : IsTold (told es' h.to.path) (k.line h.to.path) h.to.path h.to
        tells =
            let i = as_told path h.to.path h.was here h.found in
            record {
              spawned = h.spawned ∙ i.spawned;
              opened = h.opened ∙ i.opened;
              stakes = ap (map scope_of) h.stakes ∙ i.stakes;
              weighty = awake_weighty h.to.place h.to.path h.to.stakes h.awake (subst (Each IsPositive) (sym h.stakes) (weighty_awake h.was.place h.to.path h.was.stakes h.was_awake i.weighty));
            }

        weighs : (id : ScopeId) → held id (put_task h.to a.live) ≡ held id a.live
        weighs id =
            let x = held-put_task id h.to h.was a.live found in
            let y : weight_in id h.to.stakes ≡ weight_in id h.was.stakes = ap (weight_in id) h.stakes in
            omega (arith, x, y)

    -- a task's innermost weight and the book of its scope change
    module _ (path : List ℕ) (at : IsAt path a) (of : IsIn a at.inner) (w : ℕ) (to : Live) (renamed : to.path ≡ at.was.path) (spawned : to.spawned ≡ at.was.spawned) (opened : to.opened ≡ at.was.opened)
        (stakes : to.stakes ≡ record at.inner { weight = w } ∷ at.outer) (book : Scope) (id : book.id ≡ at.inner.scope) where
      found : task to.path a.live ≡ Some at.was
      found = ap (λ r. task r a.live) (renamed ∙ at.named) ∙ at.found

      weight_kept : Weighty to.place to.path to.stakes → ScopeOk es' (put_task to a.live) at.inner.scope book → Kept es' (record { live = put_task to a.live; scopes = put_scope book a.scopes })
      weight_kept weighty fine =
          kept_by es e a k no_spawn (record { live = put_task to a.live; scopes = put_scope book a.scopes }) (put_change es e a k to (put_scope book a.scopes) (record {
            was = at.was;
            found = found;
            others = λ q n. same q;
            tells = (let i = as_told path to.path at.was (renamed ∙ at.named) at.found in record {
              spawned = spawned ∙ i.spawned;
              opened = opened ∙ i.opened;
              stakes = ap (map scope_of) stakes ∙ ap (map scope_of) (sym at.stakes) ∙ i.stakes;
              weighty = weighty;
            });
            inside = same_inside to.path;
            known = subst (Each (IsKnown es')) (sym stakes) (subst (Each (IsKnown es')) at.stakes (known_more es e at.was.stakes (task_known path at.was at.found)));
            scopes = λ j s f. by_place j s (rebooked at.inner.scope of.book book a.scopes j s of.found id f);
          }))
        where
          by_place : (j : ScopeId) (s : Scope) → ((at.inner.scope ≡ j) × (book ≡ s)) ⊎ ((same_scope at.inner.scope j ≡ false) × (scope j a.scopes ≡ Some s)) → ScopeOk es' (put_task to a.live) j s
          by_place j s (inl (f, g)) = subst (λ r. ScopeOk es' (put_task to a.live) j r) g (subst (λ i. ScopeOk es' (put_task to a.live) i book) f fine)
          by_place j s (inr (f, g)) =
              let x = reweighed to at.was at.inner at.outer w a.live j found at.stakes stakes in
              let y = in_scope_other j at.inner at.inner.weight f in
              let z = in_scope_other j at.inner w f in
              scope_still es e a.live (put_task to a.live) j s (omega (arith, x, y, z)) (k.scopes j s g)

      -- in its own scope
      innermost : held at.inner.scope (put_task to a.live) + at.inner.weight ≡ held at.inner.scope a.live + w
      innermost =
          let x = reweighed to at.was at.inner at.outer w a.live at.inner.scope found at.stakes stakes in
          let y = in_scope_same at.inner at.inner.weight in
          let z = in_scope_same at.inner w in
          omega (arith, x, y, z)

      innermost_held : at.inner.weight ≤ held at.inner.scope a.live
      innermost_held =
          let x = held_least at.inner.scope path at.was a.live at.found in
          let y : weight_in at.inner.scope at.was.stakes ≡ weight_in at.inner.scope (at.inner ∷ at.outer) = ap (weight_in at.inner.scope) at.stakes in
          let z = weight_in-cons_same at.inner.scope at.inner at.outer refl in
          omega (arith, x, y, z)

    pub replenish_kept : (w0 : ℕ) (path : List ℕ) (b : World) → IsReplenish w0 path a b → Kept es' b
    replenish_kept w0 path b h =
        subst (Kept es') h.now (weight_kept path at h.of (1 + w0) to refl refl refl refl (issue w0 h.of.book) h.of.id
        (awake_weighty at.was.place at.was.path to.stakes at.awake ((let x : 1 ≤ 1 + w0 = omega arith in x), positive.1))
        (record { books = books; passed = passed; known = opened_still at.inner.scope o.known }))
      where
        at : IsAt path a
        at = h.at

        to : Live
        to = record h.at.was { stakes = record h.at.inner { weight = 1 + w0 } ∷ h.at.outer }

        o : ScopeOk es a.live h.at.inner.scope h.of.book
        o = k.scopes h.at.inner.scope h.of.book h.of.found

        positive : Each IsPositive (h.at.inner ∷ h.at.outer)
        positive = subst (Each IsPositive) h.at.stakes (weighty_awake h.at.was.place path h.at.was.stakes h.at.awake (k.tasks path h.at.was h.at.found).weighty)

        more : held h.at.inner.scope (put_task (record h.at.was { stakes = record h.at.inner { weight = 1 + w0 } ∷ h.at.outer }) a.live) + h.at.inner.weight ≡ held h.at.inner.scope a.live + (1 + w0)
        more = innermost path h.at h.of (1 + w0) (record h.at.was { stakes = record h.at.inner { weight = 1 + w0 } ∷ h.at.outer }) refl refl refl refl (issue w0 h.of.book) h.of.id

        books : h.of.book.issued + w0 ≡ h.of.book.returned + held h.at.inner.scope (put_task (record h.at.was { stakes = record h.at.inner { weight = 1 + w0 } ∷ h.at.outer }) a.live)
        books = let x = (k.scopes h.at.inner.scope h.of.book h.of.found).books in let y = more in let z = h.one in omega (arith, x, y, z)

        passed : h.of.book.passed ≡ true → h.of.book.issued + w0 ≡ h.of.book.returned
        passed p =
            let x = (k.scopes h.at.inner.scope h.of.book h.of.found).books in
            let y = (k.scopes h.at.inner.scope h.of.book h.of.found).passed p in
            let z = h.one in
            let v = innermost_held path h.at h.of (1 + w0) (record h.at.was { stakes = record h.at.inner { weight = 1 + w0 } ∷ h.at.outer }) refl refl refl refl (issue w0 h.of.book) h.of.id in
            absurd (omega (arith, x, y, z, v))

    pub park_kept : {does : Live → Option Action} (path : List ℕ) (b : World) → IsPark does path a b → Kept es' b
    park_kept path b h =
        subst (Kept es') h.now (weight_kept path h.at h.of 0 to refl refl refl refl (give_back h.at.inner.weight [] h.of.book) h.of.id
        (refl, sym (paths_same h.at.was.path h.at.inner.scope.owner h.own), positive.1)
        (record { books = books; passed = passed; known = opened_still h.at.inner.scope (k.scopes h.at.inner.scope h.of.book h.of.found).known }))
      where
        to : Live
        to = record (did h.at.was (record h.at.inner { weight = 0 } ∷ h.at.outer)) { place = Parked }

        positive : Each IsPositive (h.at.inner ∷ h.at.outer)
        positive = subst (Each IsPositive) h.at.stakes (weighty_awake h.at.was.place path h.at.was.stakes h.at.awake (k.tasks path h.at.was h.at.found).weighty)

        more : held h.at.inner.scope (put_task to a.live) + h.at.inner.weight ≡ held h.at.inner.scope a.live + 0
        more = innermost path h.at h.of 0 to refl refl refl refl (give_back h.at.inner.weight [] h.of.book) h.of.id

        books : h.of.book.issued ≡ (h.of.book.returned + h.at.inner.weight) + held h.at.inner.scope (put_task to a.live)
        books = let x = (k.scopes h.at.inner.scope h.of.book h.of.found).books in let y = more in omega (arith, x, y)

        passed : h.of.book.passed ≡ true → h.of.book.issued ≡ h.of.book.returned + h.at.inner.weight
        passed p =
            let x = (k.scopes h.at.inner.scope h.of.book h.of.found).books in
            let y = (k.scopes h.at.inner.scope h.of.book h.of.found).passed p in
            let v = innermost_held path h.at h.of 0 to refl refl refl refl (give_back h.at.inner.weight [] h.of.book) h.of.id in
            omega (arith, x, y, v)

    -- ---- a scope passes
    pub pass_kept : (id : ScopeId) (b : World) → IsPass id a b → Kept es' b
    pass_kept id b h =
        subst (Kept es') h.now (kept_by es e a k no_spawn (record a { scopes = put_scope to a.scopes }) (record {
          unique = k.unique;
          from = λ q t f. (t, f);
          tasks = λ q t f. as_told q q t refl f;
          open' = λ u m top low t f g w. record { its = t; lives = f; top = top; inside = ap (λ (x : Told). x.inside) (same u) ∙ g };
          known = all_known_more es e a.live k.known;
          scopes = λ j s f. by_place j s (rebooked id h.book to a.scopes j s h.found h.same f);
          quiet = λ q. inr (same q);
          ended = λ q t f. inl (t, f);
        }))
      where
        to : Scope
        to = record h.book { passed = true }

        o : ScopeOk es a.live id h.book
        o = k.scopes id h.book h.found

        by_place : (j : ScopeId) (s : Scope) → ((id ≡ j) × (to ≡ s)) ⊎ ((same_scope id j ≡ false) × (scope j a.scopes ≡ Some s)) → ScopeOk es' a.live j s
        by_place j s (inl (f, g)) =
            subst (λ r. ScopeOk es' a.live j r) g (subst (λ i. ScopeOk es' a.live i to) f (record { books = o.books; passed = λ p. h.all_back; known = opened_still id o.known }))
        by_place j s (inr (f, g)) = scope_still es e a.live a.live j s refl (k.scopes j s g)
