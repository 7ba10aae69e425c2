-- A task spawns another.
use Rattle.std.proofs.Common.{◌≡◌, ℕ, ◌+◌, ◌-◌, ◌/◌, ◌<◌, List, [], ◌∷◌, ◌++◌, length, Option, Some, None, refl, sym}
use Rattle.std.proofs.Common.{ap, ◌∙◌, subst, inl, inr, arith}
use Rattle.std.proofs.lemmas.List.Elements.{Contains-append_left, Contains-append_right}
use Rattle.std.specs.Prelude.{Bool, true, false, ◌⊎◌, map, Contains, if◌then◌else◌}
use Rattle.std.proofs.lemmas.Option.{same_Some}
use Rattle.task_run.specs.Lists.{Each}
use Rattle.task_run.specs.OwnRun.{Action}
use Rattle.task_run.proofs.CompleteResults.{path_same}
use Rattle.task_run.proofs.SettledResults.{paths_same}
use Rattle.event_worlds.specs.World.{same_path, ScopeId, Live, World, same_scope, child_path, task, put_task, held}
use Rattle.event_worlds.specs.Events.{Event, Spawns, Ends, did, new_task}
use Rattle.event_worlds.specs.History.{Told, untold, spawned_more, told, SpawnsAt, Begun, by_owner, by_member}
use Rattle.event_worlds.proofs.Lookups.{by_test, path_not, other_path, task-put_task, unique-put_task}
use Rattle.event_worlds.proofs.Lookups.{each-put_task}
use Rattle.event_worlds.proofs.Histories.{map_contains, nil_cons, nil_snoc, told_last, spawned_last, next_is_new}
use Rattle.event_worlds.proofs.Histories.{child_is_longer, child_is_other, BegunLast, begun_last}
use Rattle.event_worlds.proofs.Stakes.{scope_of, own, IsPositive, weighty_awake, awake_weighty}
use Rattle.event_worlds.proofs.Changes.{IsSpawn}
use Rattle.event_worlds.proofs.Kept.{base, Hangs, WasSpawned, IsNamed, IsTold, IsKnown, Kept}
use Rattle.event_worlds.proofs.Steps.{named_still, known_more, all_known_more, scope_still, IsPut, put_cases}
use Rattle.event_worlds.proofs.Steps.{put_lives, put_from}
use Rattle.event_worlds.proofs.Events.{reweighed, task_known}
use Rattle.event_worlds.proofs.Scopes.{spawns_same, base_is}

pub begun_spawned : (es : List Event) (id : ScopeId) (q : List ℕ) → Begun es id q → WasSpawned es q
begun_spawned es id q (by_owner {before = before} h k) = record { before = before; parent = id.owner; at = h }
begun_spawned es id q (by_member {before = before} {path = o} b h) = record { before = before; parent = o; at = h }

untold_child : (p : List ℕ) (n : ℕ) → untold (child_path p n) ≡ record { spawned = 0; opened = 0; inside = [] }
untold_child [] n = refl
untold_child (m ∷ p) n = refl

module _ (es : List Event) (a : World) (k : Kept es a) {does : Live → Option Action} (path : List ℕ) (b : World) (h : IsSpawn does path a b) where
  abbrev p : List ℕ
  p = h.at.was.path

  abbrev es' : List Event
  es' = es ++ Spawns p ∷ []

  -- the child, and the parent afterwards
  abbrev c : List ℕ
  c = child_path p (h.at.was.spawned + 1)

  abbrev kid : Live
  kid = new_task c h.child (record h.at.inner { weight = h.at.inner.weight / 2 }) h.at.worker

  abbrev to : Live
  to = record (did h.at.was (record h.at.inner { weight = h.at.inner.weight - h.at.inner.weight / 2 } ∷ h.at.outer)) { spawned = h.at.was.spawned + 1 }

  abbrev live : List Live
  live = kid ∷ put_task to a.live

  found : task p a.live ≡ Some h.at.was
  found = ap (λ r. task r a.live) h.at.named ∙ h.at.found

  was_told : IsTold (told es p) (k.line p) p h.at.was
  was_told = k.tasks p h.at.was found

  are : h.at.inner.scope ∷ map scope_of h.at.outer ≡ map (own p) (told es p).inside ++ base (k.line p)
  are = ap (map scope_of) (sym h.at.stakes) ∙ was_told.stakes

  -- ---- the child is new
  numbered : c ≡ child_path p ((told es p).spawned + 1)
  numbered = ap (λ n. child_path p (n + 1)) was_told.spawned

  pub not_named : IsNamed es c → ⊥
  not_named (inl f) = nil_snoc p (h.at.was.spawned + 1) [] (sym f)
  not_named (inr s) = next_is_new es s.before s.parent p c s.at numbered

  other : (q : List ℕ) → IsNamed es q → c ≡ q → ⊥
  other q n f = not_named (subst (IsNamed es) (sym f) n)

  none_yet : task c a.live ≡ None
  none_yet = by_life (task c a.live) refl
    where
      by_life : (o : Option Live) → task c a.live ≡ o → task c a.live ≡ None
      by_life None f = f
      by_life (Some t) f = absurd (not_named (k.named c t f))

  silent : told es c ≡ record { spawned = 0; opened = 0; inside = [] }
  silent = by_kind (k.quiet c)
    where
      by_kind : IsNamed es c ⊎ (told es c ≡ untold c) → told es c ≡ record { spawned = 0; opened = 0; inside = [] }
      by_kind (inl n) = absurd (not_named n)
      by_kind (inr f) = f ∙ untold_child p (h.at.was.spawned + 1)

  -- ---- the records
  here : told es' p ≡ spawned_more (told es p)
  here = told_last es (Spawns p) p ∙ ap (λ (x : Bool). if x then spawned_more (told es p) else told es p) (path_same p)

  others : (q : List ℕ) → (p ≡ q → ⊥) → told es' q ≡ told es q
  others q n = told_last es (Spawns p) q ∙ ap (λ (x : Bool). if x then spawned_more (told es q) else told es q) (path_not p q n)

  same_inside : (q : List ℕ) → (told es' q).inside ≡ (told es q).inside
  same_inside q =
      by_test (λ x. (told es' q).inside ≡ (told es q).inside) (same_path p q)
      (λ f. ap (λ r. (told es' r).inside) (sym (paths_same p q f)) ∙ ap (λ (t : Told). t.inside) here ∙ ap (λ r. (told es r).inside) (paths_same p q f))
      (λ f. ap (λ (t : Told). t.inside) (others q (other_path f)))

  told_child : told es' c ≡ record { spawned = 0; opened = 0; inside = [] }
  told_child = others c (child_is_other p (h.at.was.spawned + 1)) ∙ silent

  -- ---- lines of scopes
  abbrev its_line : List ScopeId
  its_line = map (own p) (told es p).inside ++ k.line p

  line : List ℕ → List ScopeId
  line q = if same_path c q then its_line else k.line q

  line_child : line c ≡ its_line
  unfolding line
  line_child = ap (λ (x : Bool). if x then its_line else k.line c) (path_same c)

  line_other : (q : List ℕ) → (c ≡ q → ⊥) → line q ≡ k.line q
  unfolding line
  line_other q n = ap (λ (x : Bool). if x then its_line else k.line q) (path_not c q n)

  line_parent : line p ≡ k.line p
  line_parent = line_other p (λ f. child_is_other p (h.at.was.spawned + 1) (sym f))

  -- ---- looking up
  pub record IsNow (q : List ℕ) (t : Live) : Type 0 where
    pub now : ((c ≡ q) × (kid ≡ t)) ⊎ ((c ≡ q → ⊥) × IsPut to a.live q t)

  is_now : (q : List ℕ) (t : Live) → task q live ≡ Some t → IsNow q t
  is_now q t f =
      by_test (λ x. (if x then Some kid else task q (put_task to a.live)) ≡ Some t → IsNow q t) (same_path c q)
      (λ g f. record { now = inl (paths_same c q g, same_Some _ _ f) })
      (λ g f. record { now = inr (other_path g, put_cases to h.at.was t q a.live found f) }) f

  lives_on : (q : List ℕ) (t : Live) → task q a.live ≡ Some t → (s : Live) × (task q live ≡ Some s)
  lives_on q t f =
      let s = put_lives to h.at.was t q a.live found f in
      (s.0, ap (λ (x : Bool). if x then Some kid else task q (put_task to a.live)) (path_not c q (other q (k.named q t f))) ∙ s.1)

  kid_lives : task c live ≡ Some kid
  kid_lives = ap (λ (x : Bool). if x then Some kid else task c (put_task to a.live)) (path_same c)

  -- ---- weights
  weights : (id : ScopeId) → held id live ≡ held id a.live
  weights id =
      let x = reweighed to h.at.was h.at.inner h.at.outer (h.at.inner.weight - h.at.inner.weight / 2) a.live id found h.at.stakes refl in
      by_place (same_scope h.at.inner.scope id) x
    where
      by_place : (y : Bool) → held id (put_task to a.live) + (if y then h.at.inner.weight else 0) ≡ held id a.live + (if y then h.at.inner.weight - h.at.inner.weight / 2 else 0)
          → ((if y then h.at.inner.weight / 2 else 0) + 0) + held id (put_task to a.live) ≡ held id a.live
      by_place true x = omega (arith, x)
      by_place false x = omega (arith, x)

  positive : Each IsPositive (h.at.inner ∷ h.at.outer)
  positive = subst (Each IsPositive) h.at.stakes (weighty_awake h.at.was.place p h.at.was.stakes h.at.awake was_told.weighty)

  -- ---- tasks
  kid_told : IsTold (told es' c) (line c) c kid
  kid_told =
      subst (λ x. IsTold x (line c) c kid) (sym told_child) (record {
        spawned = refl;
        opened = refl;
        stakes = sym (base_is h.at.inner.scope (map scope_of h.at.outer) (map (own p) (told es p).inside) (k.line p) are) ∙ ap base (sym line_child);
        weighty = ((let x = h.two in omega (arith, x)), tt);
      })

  parent_told : IsTold (told es' p) (line p) p to
  parent_told =
      subst (λ l. IsTold (told es' p) l p to) (sym line_parent) (subst (λ x. IsTold x (k.line p) p to) (sym here) (record {
        spawned = ap (λ n. n + 1) was_told.spawned;
        opened = was_told.opened;
        stakes = are;
        weighty = awake_weighty h.at.was.place p to.stakes h.at.awake ((let x = h.two in omega (arith, x)), positive.1);
      }))

  tasks : (q : List ℕ) (t : Live) → IsNow q t → IsTold (told es' q) (line q) q t
  tasks q t i = by_place i.now
    where
      by_put : (c ≡ q → ⊥) → ((p ≡ q) × (to ≡ t)) ⊎ ((p ≡ q → ⊥) × (task q a.live ≡ Some t)) → IsTold (told es' q) (line q) q t
      by_put n (inl (f, g)) = subst (λ s. IsTold (told es' q) (line q) q s) g (subst (λ r. IsTold (told es' r) (line r) r to) f parent_told)
      by_put n (inr (f, g)) = subst (λ l. IsTold (told es' q) l q t) (sym (line_other q n)) (subst (λ x. IsTold x (k.line q) q t) (sym (others q f)) (k.tasks q t g))

      by_place : ((c ≡ q) × (kid ≡ t)) ⊎ ((c ≡ q → ⊥) × IsPut to a.live q t) → IsTold (told es' q) (line q) q t
      by_place (inl (f, g)) = subst (λ s. IsTold (told es' q) (line q) q s) g (subst (λ r. IsTold (told es' r) (line r) r kid) f kid_told)
      by_place (inr (n, i)) = by_put n i.here

  -- ---- the tasks' positions
  still_hangs : (q r : List ℕ) → line r ≡ k.line q → length q < length r + 1 → Hangs es a.live k.line q → Hangs es' live line r
  still_hangs q r f lt g =
      let s = lives_on g.owner g.its g.lives in
      let s_line = line_other g.owner (other g.owner (k.named g.owner g.its g.lives)) in
      record {
        owner = g.owner;
        number = g.number;
        top = g.top;
        low = g.low;
        its = s.0;
        lives = s.1;
        inside = same_inside g.owner ∙ g.inside;
        lined = f ∙ g.lined ∙ ap (λ l. own g.owner g.number ∷ map (own g.owner) g.low ++ l) (sym s_line);
        shorter = (let x = g.shorter in omega (arith, x, lt));
      }

  kid_hangs : Hangs es' live line c
  kid_hangs = by_inside (told es p).inside refl
    where
      by_parent : (told es p).inside ≡ [] → (p ≡ []) ⊎ Hangs es a.live k.line p → Hangs es' live line c
      by_parent f (inl g) =
          let no = are ∙ ap (λ ns. map (own p) ns ++ base (k.line p)) f ∙ ap base (ap k.line g ∙ k.no_line) in
          absurd (nil_cons (sym no))
      by_parent f (inr g) =
          still_hangs p c (line_child ∙ ap (λ ns. map (own p) ns ++ k.line p) f) (let x = child_is_longer p (h.at.was.spawned + 1) in omega (arith, x)) g

      by_inside : (ns : List ℕ) → (told es p).inside ≡ ns → Hangs es' live line c
      by_inside [] f = by_parent f (k.hangs p h.at.was found)
      by_inside (m ∷ low) f =
          let s = lives_on p h.at.was found in
          record {
            owner = p;
            number = m;
            top = [];
            low = low;
            its = s.0;
            lives = s.1;
            inside = same_inside p ∙ f;
            lined = line_child ∙ ap (λ ns. map (own p) ns ++ k.line p) f ∙ ap (λ l. own p m ∷ map (own p) low ++ l) (sym line_parent);
            shorter = child_is_longer p (h.at.was.spawned + 1);
          }

  hangs : (q : List ℕ) (t : Live) → IsNow q t → (q ≡ []) ⊎ Hangs es' live line q
  hangs q t i = by_place i.now
    where
      by_kind : (c ≡ q → ⊥) → (q ≡ []) ⊎ Hangs es a.live k.line q → (q ≡ []) ⊎ Hangs es' live line q
      by_kind n (inl f) = inl f
      by_kind n (inr g) = inr (still_hangs q q (line_other q n) (omega arith) g)

      by_place : ((c ≡ q) × (kid ≡ t)) ⊎ ((c ≡ q → ⊥) × IsPut to a.live q t) → (q ≡ []) ⊎ Hangs es' live line q
      by_place (inl (f, g)) = inr (subst (Hangs es' live line) f kid_hangs)
      by_place (inr (n, j)) = by_kind n (let s = put_from to h.at.was t q a.live found j in k.hangs q s.0 s.1)

  -- ---- names
  kid_spawned : SpawnsAt es' es p c
  kid_spawned = record { later = []; here = refl; numbered = numbered }

  named : (q : List ℕ) (t : Live) → IsNow q t → IsNamed es' q
  named q t i = by_place i.now
    where
      by_place : ((c ≡ q) × (kid ≡ t)) ⊎ ((c ≡ q → ⊥) × IsPut to a.live q t) → IsNamed es' q
      by_place (inl (f, g)) = inr (record { before = es; parent = p; at = subst (SpawnsAt es' es p) f kid_spawned })
      by_place (inr (n, j)) = named_still es (Spawns p) q (let s = put_from to h.at.was t q a.live found j in k.named q s.0 s.1)

  quiet : (q : List ℕ) → IsNamed es' q ⊎ (told es' q ≡ untold q)
  quiet q =
      by_test (λ x. IsNamed es' q ⊎ (told es' q ≡ untold q)) (same_path p q)
      (λ f. inl (subst (IsNamed es') (paths_same p q f) (named_still es (Spawns p) p (k.named p h.at.was found))))
      (λ f. by_kind (other_path f) (k.quiet q))
    where
      by_kind : (p ≡ q → ⊥) → IsNamed es q ⊎ (told es q ≡ untold q) → IsNamed es' q ⊎ (told es' q ≡ untold q)
      by_kind n (inl g) = inl (named_still es (Spawns p) q g)
      by_kind n (inr g) = inr (others q n ∙ g)

  -- ---- spawned tasks
  spawned : (before : List Event) (o q : List ℕ) → SpawnsAt es' before o q → ((t : Live) × (task q live ≡ Some t)) ⊎ Contains es' (Ends q)
  spawned before o q i = by_place (spawned_last es (Spawns p) before o q i)
    where
      by_life : ((t : Live) × (task q a.live ≡ Some t)) ⊎ Contains es (Ends q) → ((t : Live) × (task q live ≡ Some t)) ⊎ Contains es' (Ends q)
      by_life (inl (t, f)) = inl (lives_on q t f)
      by_life (inr d) = inr (Contains-append_left es (Spawns p ∷ []) (Ends q) d)

      by_place : SpawnsAt es before o q ⊎ ((before ≡ es) × (Spawns p ≡ Spawns o)) → ((t : Live) × (task q live ≡ Some t)) ⊎ Contains es' (Ends q)
      by_place (inl s) = by_life (k.spawned before o q s)
      by_place (inr (g, s)) =
          let same = numbered ∙ ap (λ r. child_path r ((told es r).spawned + 1)) (spawns_same s) ∙ ap (λ l. child_path o ((told l o).spawned + 1)) (sym g) ∙ sym i.numbered in
          inl (kid, ap (λ r. task r live) (sym same) ∙ kid_lives)

  fresh : (o : List ℕ) → Spawns p ≡ Spawns o → (told es (child_path o ((told es o).spawned + 1))).spawned ≡ 0
  fresh o f =
      ap (λ r. (told es (child_path r ((told es r).spawned + 1))).spawned) (sym (spawns_same f))
      ∙ ap (λ r. (told es r).spawned) (sym numbered) ∙ ap (λ (t : Told). t.spawned) silent

  begun : (id : ScopeId) (q : List ℕ) → Begun es' id q → Contains (line q) id
  begun id q i = by_place (begun_last es (Spawns p) id fresh q i)
    where
      by_place : Begun es id q ⊎ BegunLast es id (Spawns p) q → Contains (line q) id
      by_place (inl g) =
          subst (λ l. Contains l id) (sym (line_other q (other q (inr (begun_spawned es id q g))))) (k.begun id q g)
      by_place (inr l) =
          let parent = spawns_same l.spawns in
          let same = numbered ∙ ap (λ r. child_path r ((told es r).spawned + 1)) parent ∙ sym l.numbered in
          subst (λ r. Contains (line r) id) same (subst (λ l. Contains l id) (sym line_child) (by_inside parent l.inside))
        where
          by_inside : p ≡ l.parent → ((id.owner ≡ l.parent) × Contains (told es id.owner).inside id.number) ⊎ Begun es id l.parent → Contains its_line id
          by_inside f (inl (g, d)) =
              let owner : id.owner ≡ p = g ∙ sym f in
              let e : own p id.number ≡ id = ap (λ r. own r id.number) (sym owner) in
              subst (Contains its_line) e (Contains-append_left (map (own p) (told es p).inside) (k.line p) (own p id.number)
              (map_contains (own p) (told es p).inside id.number (subst (λ r. Contains (told es r).inside id.number) owner d)))
          by_inside f (inr g) = Contains-append_right (map (own p) (told es p).inside) (k.line p) id (k.begun id p (subst (Begun es id) (sym f) g))

  spawn_kept_own : Kept es' (record a { live = live })
  spawn_kept_own = record {
    line = line;
    no_line = line_other [] (λ f. nil_snoc p (h.at.was.spawned + 1) [] (sym f)) ∙ k.no_line;
    unique = (
      task-put_task to h.at.was c a.live found ∙ ap (λ (x : Bool). if x then Some to else task c a.live) (path_not p c (child_is_other p (h.at.was.spawned + 1))) ∙ none_yet,
      unique-put_task to h.at.was a.live found k.unique,
    );
    tasks = λ q t f. tasks q t (is_now q t f);
    hangs = λ q t f. hangs q t (is_now q t f);
    named = λ q t f. named q t (is_now q t f);
    known =
        (let was = subst (Each (IsKnown es')) h.at.stakes (known_more es (Spawns p) h.at.was.stakes (task_known es (Spawns p) a k p h.at.was found)) in
        ((was.0, tt), each-put_task (λ (t : Live). Each (IsKnown es') t.stakes) to a.live (all_known_more es (Spawns p) a.live k.known) was));
    scopes = λ id s f. scope_still es (Spawns p) a.live live id s (weights id) (k.scopes id s f);
    quiet = quiet;
    spawned = spawned;
    begun = begun;
  }

  pub spawn_kept : Kept (es ++ Spawns path ∷ []) b
  spawn_kept = subst (λ r. Kept (es ++ Spawns r ∷ []) b) h.at.named (subst (Kept es') h.now spawn_kept_own)
