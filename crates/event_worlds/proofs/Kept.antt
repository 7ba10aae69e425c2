-- Facts about each world that a list of legal events leads to.
use Rattle.std.proofs.Common.{◌≡◌, ℕ, zero, suc, ◌+◌, ◌<◌, ◌≤◌, List, [], ◌∷◌, ◌++◌, length, Some, ap, ◌∙◌, subst}
use Rattle.std.proofs.Common.{inl, inr, arith}
use Rattle.std.proofs.lemmas.List.Elements.{Contains-append_left, Contains-append_cases}
use Rattle.std.specs.Prelude.{true, ◌⊎◌, map, Contains}
use Rattle.task_run.specs.Lists.{Each}
use Rattle.event_worlds.specs.World.{ScopeId, Stake, Live, Scope, World, task, scope, weight_in, held}
use Rattle.event_worlds.specs.Events.{Event, Ends}
use Rattle.event_worlds.specs.History.{Told, untold, told, SpawnsAt, Begun}
use Rattle.event_worlds.proofs.Lookups.{Unique, held_least}
use Rattle.event_worlds.proofs.Histories.{contains_nil, contains_later, contains_cons, contains_map, map_contains}
use Rattle.event_worlds.proofs.Stakes.{scope_of, own, Weighty, weighs_below, weighs_last}

-- the scope in which a task was spawned is the first in its line
abbrev pub base : List ScopeId → List ScopeId
base [] = []
base (b ∷ bs) = b ∷ []

-- a task that was spawned in a scope, which its owner has open
pub record Hangs (es : List Event) (live : List Live) (line : List ℕ → List ScopeId) (q : List ℕ) : Type 0 where
  pub owner : List ℕ
  pub number : ℕ
  pub top : List ℕ
  pub low : List ℕ
  pub its : Live
  pub lives : task owner live ≡ Some its
  pub inside : (told es owner).inside ≡ top ++ number ∷ low
  pub lined : line q ≡ own owner number ∷ map (own owner) low ++ line owner
  pub shorter : length owner < length q

pub record WasSpawned (es : List Event) (q : List ℕ) : Type 0 where
  pub before : List Event
  pub parent : List ℕ
  pub at : SpawnsAt es before parent q

abbrev pub IsNamed : List Event → List ℕ → Type 0
IsNamed es q = (q ≡ []) ⊎ WasSpawned es q

-- a task agrees with the record of its events
pub record IsTold (x : Told) (line : List ScopeId) (q : List ℕ) (t : Live) : Type 0 where
  pub spawned : t.spawned ≡ x.spawned
  pub opened : t.opened ≡ x.opened
  pub stakes : map scope_of t.stakes ≡ map (own q) x.inside ++ base line
  pub weighty : Weighty t.place q t.stakes

abbrev pub IsKnown : List Event → Stake → Type 0
IsKnown es s = s.scope.number ≤ (told es s.scope.owner).opened

pub record ScopeOk (es : List Event) (live : List Live) (id : ScopeId) (s : Scope) : Type 0 where
  pub books : s.issued ≡ s.returned + held id live
  pub passed : s.passed ≡ true → s.issued ≡ s.returned
  pub known : id.number ≤ (told es id.owner).opened

pub record Kept (es : List Event) (w : World) : Type 0 where
  -- the scopes in which a task was spawned, directly or not
  pub line : List ℕ → List ScopeId
  pub no_line : line [] ≡ []
  pub unique : Unique w.live
  pub tasks : (q : List ℕ) (t : Live) → task q w.live ≡ Some t → IsTold (told es q) (line q) q t
  pub hangs : (q : List ℕ) (t : Live) → task q w.live ≡ Some t → (q ≡ []) ⊎ Hangs es w.live line q
  pub named : (q : List ℕ) (t : Live) → task q w.live ≡ Some t → IsNamed es q
  pub known : Each (λ (t : Live). Each (IsKnown es) t.stakes) w.live
  pub scopes : (id : ScopeId) (s : Scope) → scope id w.scopes ≡ Some s → ScopeOk es w.live id s
  pub quiet : (q : List ℕ) → IsNamed es q ⊎ (told es q ≡ untold q)
  pub spawned : (before : List Event) (o q : List ℕ) → SpawnsAt es before o q → ((t : Live) × (task q w.live ≡ Some t)) ⊎ Contains es (Ends q)
  pub begun : (id : ScopeId) (q : List ℕ) → Begun es id q → Contains (line q) id

-- ---- consequences for a single world
module _ (es : List Event) (w : World) (k : Kept es w) where
  -- in the scope in which it was spawned, a task has weight
  pub base_weighs : (q : List ℕ) (t : Live) → task q w.live ≡ Some t → (h : Hangs es w.live k.line q) → 1 ≤ held (own h.owner h.number) w.live
  base_weighs q t e h =
      let i = k.tasks q t e in
      let b = own h.owner h.number in
      let are : map scope_of t.stakes ≡ map (own q) (told es q).inside ++ b ∷ [] = i.stakes ∙ ap (λ l. map (own q) (told es q).inside ++ base l) h.lined in
      let weighs = weighs_last t.place q t.stakes b (map (own q) (told es q).inside) i.weighty are (λ f. too_long f h.shorter) in
      let least = held_least b q t w.live e in
      omega (arith, weighs, least)
    where
      too_long : h.owner ≡ q → length h.owner < length q → ⊥
      too_long f lt = let g : length h.owner ≡ length q = ap length f in omega (arith, g, lt)

  -- below its innermost own scope an owner has weight
  low_weighs : (u : List ℕ) (t : Live) (top low : List ℕ) (m n : ℕ) → task u w.live ≡ Some t → (told es u).inside ≡ top ++ m ∷ low → Contains low n → 1 ≤ held (own u n) w.live
  low_weighs u t top low m n e f c =
      let i = k.tasks u t e in
      let least = held_least (own u n) u t w.live e in
      let weighs = by_top top (i.stakes ∙ ap (λ l. map (own u) l ++ base (k.line u)) f) i.weighty in
      omega (arith, weighs, least)
    where
      in_low : Contains (map (own u) low ++ base (k.line u)) (own u n)
      in_low = Contains-append_left (map (own u) low) (base (k.line u)) (own u n) (map_contains (own u) low n c)

      in_top : (top : List ℕ) → Contains (map (own u) (top ++ m ∷ low) ++ base (k.line u)) (own u n)
      in_top [] = contains_later (own u m) (map (own u) low ++ base (k.line u)) (own u n) in_low
      in_top (j ∷ top) = contains_later (own u j) (map (own u) (top ++ m ∷ low) ++ base (k.line u)) (own u n) (in_top top)

      by_top : (top : List ℕ) → map scope_of t.stakes ≡ map (own u) (top ++ m ∷ low) ++ base (k.line u) → Weighty t.place u t.stakes → 1 ≤ weight_in (own u n) t.stakes
      by_top [] are h = weighs_below t.place u t.stakes (own u m) (own u n) (map (own u) low ++ base (k.line u)) h are in_low
      by_top (j ∷ top) are h = weighs_below t.place u t.stakes (own u j) (own u n) (map (own u) (top ++ m ∷ low) ++ base (k.line u)) h are (in_top top)

  line_within : (n : ℕ) (q : List ℕ) (t : Live) → length q < n → task q w.live ≡ Some t → (id : ScopeId) → Contains (k.line q) id → 1 ≤ held id w.live
  line_within zero q t lt e id c = absurd (omega (arith, lt))
  line_within (suc n) q t lt e id c = by_kind (k.hangs q t e) (λ u s le f d. line_within n u s le f id d)
    where
      by_kind : (q ≡ []) ⊎ Hangs es w.live k.line q → ((u : List ℕ) (s : Live) → length u < n → task u w.live ≡ Some s → Contains (k.line u) id → 1 ≤ held id w.live) → 1 ≤ held id w.live
      by_kind (inl f) rec = absurd (contains_nil id (subst (λ l. Contains l id) (ap k.line f ∙ k.no_line) c))
      by_kind (inr h) rec = by_place (contains_cons b (map (own h.owner) h.low ++ k.line h.owner) id (subst (λ l. Contains l id) h.lined c))
        where
          b : ScopeId
          b = own h.owner h.number

          by_place : (b ≡ id) ⊎ Contains (map (own h.owner) h.low ++ k.line h.owner) id → 1 ≤ held id w.live
          by_place (inl f) = subst (λ i. 1 ≤ held i w.live) f (base_weighs q t e h)
          by_place (inr d) = by_part (Contains-append_cases (map (own h.owner) h.low) (k.line h.owner) id d)
            where
              by_part : Contains (map (own h.owner) h.low) id ⊎ Contains (k.line h.owner) id → 1 ≤ held id w.live
              by_part (inl f) =
                  let g = contains_map (own h.owner) h.low id f in
                  subst (λ i. 1 ≤ held i w.live) g.2 (low_weighs h.owner h.its h.top h.low h.number g.0 h.lives h.inside g.1)
              by_part (inr f) = rec h.owner h.its (let s = h.shorter in omega (arith, s, lt)) h.lives f

  -- in each scope in which a live task was spawned, directly or not, some task has weight
  pub line_weighs : (q : List ℕ) (t : Live) → task q w.live ≡ Some t → (id : ScopeId) → Contains (k.line q) id → 1 ≤ held id w.live
  line_weighs q t = line_within (length q + 1) q t (omega arith)

  -- all tasks spawned in a passed scope have ended
  pub passed_ended : (id : ScopeId) (s : Scope) (q : List ℕ) → scope id w.scopes ≡ Some s → s.passed ≡ true → Begun es id q → WasSpawned es q → Contains es (Ends q)
  passed_ended id s q e p b h = by_place (k.spawned h.before h.parent q h.at)
    where
      by_place : ((t : Live) × (task q w.live ≡ Some t)) ⊎ Contains es (Ends q) → Contains es (Ends q)
      by_place (inr c) = c
      by_place (inl (t, f)) =
          let o = k.scopes id s e in
          let books = o.books in
          let even = o.passed p in
          let some = line_weighs q t f id (k.begun id q b) in
          absurd (omega (arith, books, even, some))
