-- How one more event extends a history.
use Rattle.std.proofs.Common.{◌≡◌, ℕ, zero, suc, ◌+◌, ◌<◌, ◌≤◌, List, [], ◌∷◌, ◌++◌, length, refl, sym, ap, ◌∙◌}
use Rattle.std.proofs.Common.{subst, inl, inr, arith, append_assoc, le_refl}
use Rattle.std.specs.Prelude.{Bool, ◌⊎◌, map, Contains, if◌then◌else◌}
use Rattle.std.proofs.lemmas.List.{length_push}
use Rattle.shared_lemmas.proofs.Lists.{same_head, same_rest}
use Rattle.task_run.proofs.CompleteResults.{path_same}
use Rattle.task_run.proofs.Lists.{same_end}
use Rattle.event_worlds.specs.World.{same_path, ScopeId, child_path}
use Rattle.event_worlds.specs.Events.{Event, Take, Steal, Steps, Replenish, Spawns, Opens, Parks, Ends, Pass, Resume}
use Rattle.event_worlds.specs.History.{Told, untold, spawned_more, opened_more, left_one, tell, tell_all, told}
use Rattle.event_worlds.specs.History.{SpawnsAt, Begun, by_owner, by_member}
use Rattle.event_worlds.proofs.Lookups.{by_test}

-- ---- lists
pub contains_nil : {X : Type 0} (x : X) → Contains [] x → ⊥
contains_nil x (k, lt, e) = omega (arith, lt)

pub contains_here : {X : Type 0} (x : X) (xs : List X) → Contains (x ∷ xs) x
contains_here x xs = (0, omega arith, refl)

pub contains_later : {X : Type 0} (y : X) (xs : List X) (x : X) → Contains xs x → Contains (y ∷ xs) x
contains_later y xs x (k, lt, e) = (suc k, omega (arith, lt), e)

pub contains_cons : {X : Type 0} (y : X) (xs : List X) (x : X) → Contains (y ∷ xs) x → (y ≡ x) ⊎ Contains xs x
contains_cons y xs x (zero, lt, e) = inl e
contains_cons y xs x (suc k, lt, e) = inr (k, omega (arith, lt), e)

pub contains_map : {X Y : Type 0} (f : X → Y) (xs : List X) (y : Y) → Contains (map f xs) y → (x : X) × Contains xs x × (f x ≡ y)
contains_map f [] y h = absurd (contains_nil y h)
contains_map f (x ∷ xs) y h = by_place (contains_cons (f x) (map f xs) y h) (contains_map f xs y)
  where
    by_place : (f x ≡ y) ⊎ Contains (map f xs) y → (Contains (map f xs) y → (z : _) × Contains xs z × (f z ≡ y)) → (z : _) × Contains (x ∷ xs) z × (f z ≡ y)
    by_place (inl e) rec = (x, contains_here x xs, e)
    by_place (inr k) rec = let r = rec k in (r.0, contains_later x xs r.0 r.1, r.2)

pub map_contains : {X Y : Type 0} (f : X → Y) (xs : List X) (x : X) → Contains xs x → Contains (map f xs) (f x)
map_contains f [] x h = absurd (contains_nil x h)
map_contains f (y ∷ xs) x h = by_place (contains_cons y xs x h) (map_contains f xs x)
  where
    by_place : (y ≡ x) ⊎ Contains xs x → (Contains xs x → Contains (map f xs) (f x)) → Contains (f y ∷ map f xs) (f x)
    by_place (inl e) rec = subst (λ z. Contains (f y ∷ map f xs) (f z)) e (contains_here (f y) (map f xs))
    by_place (inr k) rec = contains_later (f y) (map f xs) (f x) (rec k)

pub nil_cons : {X : Type 0} {x : X} {xs : List X} → [] ≡ x ∷ xs → ⊥
nil_cons {X} e = subst IsNil e tt
  where
    IsNil : List X → Type 0
    IsNil [] = Unit {0}
    IsNil (z ∷ zs) = ⊥

pub nil_snoc : {X : Type 0} (xs : List X) (x : X) (ys : List X) → [] ≡ xs ++ x ∷ ys → ⊥
nil_snoc [] x ys e = nil_cons e
nil_snoc (y ∷ xs) x ys e = nil_cons e

-- a list with one more element, split at an element
pub at_last : {X : Type 0} (es before later : List X) (e x : X) → es ++ e ∷ [] ≡ before ++ x ∷ later → ((l : List X) × (es ≡ before ++ x ∷ l)) ⊎ ((before ≡ es) × (e ≡ x))
at_last [] [] later e x h = inr (refl, same_head h)
at_last [] (b ∷ before) later e x h = absurd (nil_snoc before x later (same_rest h))
at_last (y ∷ es) [] later e x h = inl (es, ap (λ a. a ∷ es) (same_head h))
at_last (y ∷ es) (b ∷ before) later e x h = further (at_last es before later e x (same_rest h))
  where
    further : ((l : List _) × (es ≡ before ++ x ∷ l)) ⊎ ((before ≡ es) × (e ≡ x)) → ((l : List _) × (y ∷ es ≡ b ∷ before ++ x ∷ l)) ⊎ ((b ∷ before ≡ y ∷ es) × (e ≡ x))
    further (inl (l, g)) = inl (l, ap (λ a. a ∷ es) (same_head h) ∙ ap (λ t. b ∷ t) g)
    further (inr (g, i)) = inr (ap (λ a. a ∷ before) (sym (same_head h)) ∙ ap (λ t. y ∷ t) g, i)

-- ---- the record of a task
pub tell_all-append : (q : List ℕ) (xs ys : List Event) (t : Told) → tell_all q (xs ++ ys) t ≡ tell_all q ys (tell_all q xs t)
tell_all-append q [] ys t = refl
tell_all-append q (e ∷ xs) ys t = tell_all-append q xs ys (tell q e t)

pub told_last : (es : List Event) (e : Event) (q : List ℕ) → told (es ++ e ∷ []) q ≡ tell q e (told es q)
told_last es e q = tell_all-append q es (e ∷ []) (untold q)

-- numbers only grow
pub record IsMore (a b : Told) : Type 0 where
  pub spawned : a.spawned ≤ b.spawned
  pub opened : a.opened ≤ b.opened

same_more : (t : Told) → IsMore t t
same_more t = record { spawned = le_refl t.spawned; opened = le_refl t.opened }

pub tell_more : (q : List ℕ) (e : Event) (t : Told) → IsMore t (tell q e t)
tell_more q (Spawns p) t = by_test (λ b. IsMore t (if b then spawned_more t else t)) (same_path p q) (λ f. record { spawned = omega arith; opened = le_refl t.opened }) (λ f. same_more t)
tell_more q (Opens p) t = by_test (λ b. IsMore t (if b then opened_more t else t)) (same_path p q) (λ f. record { spawned = le_refl t.spawned; opened = omega arith }) (λ f. same_more t)
tell_more q (Resume w p z) t = by_test (λ b. IsMore t (if b then left_one t else t)) (same_path p q) (λ f. record { spawned = le_refl t.spawned; opened = le_refl t.opened }) (λ f. same_more t)
tell_more q (Take w p) t = same_more t
tell_more q (Steal w f p) t = same_more t
tell_more q (Steps p) t = same_more t
tell_more q (Replenish p) t = same_more t
tell_more q (Parks p) t = same_more t
tell_more q (Ends p) t = same_more t
tell_more q (Pass id) t = same_more t

pub tell_all_more : (q : List ℕ) (es : List Event) (t : Told) → IsMore t (tell_all q es t)
tell_all_more q [] t = same_more t
tell_all_more q (e ∷ es) t =
    let a = tell_more q e t in
    let b = tell_all_more q es (tell q e t) in
    record { spawned = omega (arith, a.spawned, b.spawned); opened = omega (arith, a.opened, b.opened) }

pub told_more : (es : List Event) (e : Event) (q : List ℕ) → IsMore (told es q) (told (es ++ e ∷ []) q)
told_more es e q = subst (IsMore (told es q)) (sym (told_last es e q)) (tell_more q e (told es q))

-- ---- spawns
module _ (es : List Event) (e : Event) where
  pub still_spawns : (before : List Event) (o q : List ℕ) → SpawnsAt es before o q → SpawnsAt (es ++ e ∷ []) before o q
  still_spawns before o q h = record {
    later = h.later ++ e ∷ [];
    here = ap (λ l. l ++ e ∷ []) h.here ∙ append_assoc before (Spawns o ∷ h.later) (e ∷ []);
    numbered = h.numbered;
  }

  pub spawned_last : (before : List Event) (o q : List ℕ) → SpawnsAt (es ++ e ∷ []) before o q → SpawnsAt es before o q ⊎ ((before ≡ es) × (e ≡ Spawns o))
  spawned_last before o q h = by_place (at_last es before h.later e (Spawns o) h.here)
    where
      by_place : ((l : List Event) × (es ≡ before ++ Spawns o ∷ l)) ⊎ ((before ≡ es) × (e ≡ Spawns o)) → SpawnsAt es before o q ⊎ ((before ≡ es) × (e ≡ Spawns o))
      by_place (inl (l, g)) = inl (record { later = l; here = g; numbered = h.numbered })
      by_place (inr g) = inr g

-- afterwards the record of the parent has one more child
pub spawned_since : (es before : List Event) (o q : List ℕ) → SpawnsAt es before o q → (told before o).spawned < (told es o).spawned
spawned_since es before o q h =
    let rest = tell_all_more o (Spawns o ∷ h.later) (told before o) in
    let whole : told es o ≡ tell_all o (Spawns o ∷ h.later) (told before o) = ap (λ l. told l o) h.here ∙ tell_all-append o before (Spawns o ∷ h.later) (untold o) in
    let here : tell o (Spawns o) (told before o) ≡ spawned_more (told before o) = ap (λ (b : Bool). if b then spawned_more (told before o) else told before o) (path_same o) in
    let since = tell_all_more o h.later (tell o (Spawns o) (told before o)) in
    let a : (told before o).spawned + 1 ≤ (tell_all o h.later (tell o (Spawns o) (told before o))).spawned =
    subst (λ (t : Told). t.spawned ≤ (tell_all o h.later (tell o (Spawns o) (told before o))).spawned) here since.spawned in
    let b : (told es o).spawned ≡ (tell_all o h.later (tell o (Spawns o) (told before o))).spawned = ap (λ (t : Told). t.spawned) whole in
    omega (arith, a, b)

-- the next child wasn't there before
pub next_is_new : (es before : List Event) (o p q : List ℕ) → SpawnsAt es before o q → q ≡ child_path p ((told es p).spawned + 1) → ⊥
next_is_new es before o p q h e =
    let s = same_end o p ((told before o).spawned + 1) ((told es p).spawned + 1) (sym h.numbered ∙ e) in
    let a = spawned_since es before o q h in
    let b : (told es o).spawned ≡ (told es p).spawned = ap (λ r. (told es r).spawned) s.front in
    omega (arith, a, b, s.last)

pub child_is_longer : (p : List ℕ) (k : ℕ) → length p < length (child_path p k)
child_is_longer p k = omega (arith, length_push p k)

pub child_is_other : (p : List ℕ) (k : ℕ) → p ≡ child_path p k → ⊥
child_is_other p k e =
    let a = child_is_longer p k in
    let b : length p ≡ length (child_path p k) = ap length e in
    omega (arith, a, b)

-- ---- spawned tasks
-- a child that the last event spawns
pub record BegunLast (es : List Event) (id : ScopeId) (e : Event) (q : List ℕ) : Type 0 where
  pub parent : List ℕ
  pub spawns : e ≡ Spawns parent
  pub numbered : q ≡ child_path parent ((told es parent).spawned + 1)
  pub inside : ((id.owner ≡ parent) × Contains (told es id.owner).inside id.number) ⊎ Begun es id parent

module _ (es : List Event) (e : Event) (id : ScopeId) (fresh : (o : List ℕ) → e ≡ Spawns o → (told es (child_path o ((told es o).spawned + 1))).spawned ≡ 0) where
  begun_owner : (before : List Event) (q : List ℕ) → SpawnsAt (es ++ e ∷ []) before id.owner q → Contains (told before id.owner).inside id.number → Begun es id q ⊎ BegunLast es id e q
  begun_owner before q h k = by_place (spawned_last es e before id.owner q h)
    where
      by_place : SpawnsAt es before id.owner q ⊎ ((before ≡ es) × (e ≡ Spawns id.owner)) → Begun es id q ⊎ BegunLast es id e q
      by_place (inl s) = inl (by_owner s k)
      by_place (inr (b, s)) = inr (record {
        parent = id.owner;
        spawns = s;
        numbered = h.numbered ∙ ap (λ l. child_path id.owner ((told l id.owner).spawned + 1)) b;
        inside = inl (refl, subst (λ l. Contains (told l id.owner).inside id.number) b k);
      })

  begun_member : (before : List Event) (o q : List ℕ) → SpawnsAt (es ++ e ∷ []) before o q → Begun es id o ⊎ BegunLast es id e o → Begun es id q ⊎ BegunLast es id e q
  begun_member before o q h k = by_place k (spawned_last es e before o q h)
    where
      by_place : Begun es id o ⊎ BegunLast es id e o → SpawnsAt es before o q ⊎ ((before ≡ es) × (e ≡ Spawns o)) → Begun es id q ⊎ BegunLast es id e q
      by_place (inl b) (inl s) = inl (by_member b s)
      by_place (inl b) (inr (f, s)) = inr (record {
        parent = o;
        spawns = s;
        numbered = h.numbered ∙ ap (λ l. child_path o ((told l o).spawned + 1)) f;
        inside = inr b;
      })
      by_place (inr l) (inl s) =
          let none = ap (λ r. (told es r).spawned) l.numbered ∙ fresh l.parent l.spawns in
          let some = spawned_since es before o q s in
          absurd (omega (arith, none, some))
      by_place (inr l) (inr (f, s)) = absurd (child_is_other l.parent _ (path_in (sym l.spawns ∙ s) ∙ l.numbered))
        where
          path_in : Spawns l.parent ≡ Spawns o → l.parent ≡ o
          path_in g = ap path_of g
            where
              path_of : Event → List ℕ
              path_of (Spawns p) = p
              path_of x = o

  pub begun_last : (q : List ℕ) → Begun (es ++ e ∷ []) id q → Begun es id q ⊎ BegunLast es id e q
  begun_last q (by_owner {before = before} h k) = begun_owner before q h k
  begun_last q (by_member {before = before} {path = o} b h) = begun_member before o q h (begun_last o b)
