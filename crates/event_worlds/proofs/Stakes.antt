-- The weight of a task in the scopes that it is in.
use Rattle.std.proofs.Common.{◌≡◌, ℕ, ◌+◌, ◌≤◌, List, [], ◌∷◌, ◌++◌, sym, ap, ◌∙◌, subst, inl, inr, arith}
use Rattle.std.specs.Prelude.{Bool, false, ◌⊎◌, map, Contains, if◌then◌else◌}
use Rattle.shared_lemmas.proofs.Truths.{false_true}
use Rattle.shared_lemmas.proofs.Lists.{same_head, same_rest}
use Rattle.task_run.specs.Lists.{Each}
use Rattle.event_worlds.specs.World.{ScopeId, Stake, Whereabouts, Queue, Hand, Parked, same_scope, weight_in, is_parked}
use Rattle.event_worlds.proofs.Lookups.{scope_is}
use Rattle.event_worlds.proofs.Histories.{contains_nil, contains_here, contains_later, contains_cons, nil_cons}

abbrev pub scope_of : Stake → ScopeId
scope_of s = s.scope

abbrev pub own : List ℕ → ℕ → ScopeId
own q k = record { owner = q; number = k }

abbrev pub IsPositive : Stake → Type 0
IsPositive s = 1 ≤ s.weight

-- all stakes have weight, except that of the scope at whose end the task is parked
abbrev pub Weighty : Whereabouts → List ℕ → List Stake → Type 0
Weighty (Queue w) q ss = Each IsPositive ss
Weighty (Hand w) q ss = Each IsPositive ss
Weighty Parked q [] = ⊥
Weighty Parked q (s ∷ ss) = (s.weight ≡ 0) × (s.scope.owner ≡ q) × Each IsPositive ss

pub weighty_awake : (w : Whereabouts) (q : List ℕ) (ss : List Stake) → is_parked w ≡ false → Weighty w q ss → Each IsPositive ss
weighty_awake (Queue w) q ss e h = h
weighty_awake (Hand w) q ss e h = h
weighty_awake Parked q ss e h = absurd (false_true (sym e))

pub awake_weighty : (w : Whereabouts) (q : List ℕ) (ss : List Stake) → is_parked w ≡ false → Each IsPositive ss → Weighty w q ss
awake_weighty (Queue w) q ss e h = h
awake_weighty (Hand w) q ss e h = h
awake_weighty Parked q ss e h = absurd (false_true (sym e))

pub weight_in-cons_same : (b : ScopeId) (s : Stake) (ss : List Stake) → s.scope ≡ b → weight_in b (s ∷ ss) ≡ s.weight + weight_in b ss
weight_in-cons_same b s ss e = ap (λ (t : Bool). (if t then s.weight else 0) + weight_in b ss) (scope_is e)

-- an innermost stake with another weight
pub weight_in-other_weight : (id : ScopeId) (s : Stake) (w : ℕ) (ss : List Stake)
    → weight_in id (record s { weight = w } ∷ ss) + (if same_scope s.scope id then s.weight else 0) ≡ weight_in id (s ∷ ss) + (if same_scope s.scope id then w else 0)
weight_in-other_weight id s w ss = omega arith

pub positive_in : (b : ScopeId) (ss : List Stake) → Each IsPositive ss → Contains (map scope_of ss) b → 1 ≤ weight_in b ss
positive_in b [] h k = absurd (contains_nil b k)
positive_in b (s ∷ ss) h k = by_place (contains_cons s.scope (map scope_of ss) b k) (positive_in b ss h.1)
  where
    by_place : (s.scope ≡ b) ⊎ Contains (map scope_of ss) b → (Contains (map scope_of ss) b → 1 ≤ weight_in b ss) → 1 ≤ weight_in b (s ∷ ss)
    by_place (inl e) rec = let a = weight_in-cons_same b s ss e in let p = h.0 in omega (arith, a, p)
    by_place (inr c) rec = let a = rec c in omega (arith, a)

-- below its innermost scope it has weight, at any location
pub weighs_below : (w : Whereabouts) (q : List ℕ) (ss : List Stake) (x b : ScopeId) (xs : List ScopeId) → Weighty w q ss → map scope_of ss ≡ x ∷ xs → Contains xs b → 1 ≤ weight_in b ss
weighs_below w q [] x b xs h e k = absurd (nil_cons e)
weighs_below w q (s ∷ ss) x b xs h e k = more (positive_in b ss (tail_positive w h) (subst (λ l. Contains l b) (sym (same_rest e)) k))
  where
    tail_positive : (w : Whereabouts) → Weighty w q (s ∷ ss) → Each IsPositive ss
    tail_positive (Queue w) h = h.1
    tail_positive (Hand w) h = h.1
    tail_positive Parked h = h.2

    more : 1 ≤ weight_in b ss → 1 ≤ weight_in b (s ∷ ss)
    more a = omega (arith, a)

-- in the scope in which it was spawned it has weight
pub weighs_last : (w : Whereabouts) (q : List ℕ) (ss : List Stake) (b : ScopeId) (xs : List ScopeId) → Weighty w q ss → map scope_of ss ≡ xs ++ b ∷ [] → (b.owner ≡ q → ⊥) → 1 ≤ weight_in b ss
weighs_last w q ss b [] h e ne = lone w ss h e
  where
    lone : (w : Whereabouts) (ss : List Stake) → Weighty w q ss → map scope_of ss ≡ b ∷ [] → 1 ≤ weight_in b ss
    lone (Queue w) ss h e = positive_in b ss h (subst (λ l. Contains l b) (sym e) (contains_here b []))
    lone (Hand w) ss h e = positive_in b ss h (subst (λ l. Contains l b) (sym e) (contains_here b []))
    lone Parked [] h e = absurd h
    lone Parked (s ∷ ss) h e = absurd (ne (ap (λ (i : ScopeId). i.owner) (sym (same_head e)) ∙ h.1))
weighs_last w q ss b (x ∷ xs) h e ne = weighs_below w q ss x b (xs ++ b ∷ []) h e (last_of xs)
  where
    last_of : (xs : List ScopeId) → Contains (xs ++ b ∷ []) b
    last_of [] = contains_here b []
    last_of (y ∷ xs) = contains_later y (xs ++ b ∷ []) b (last_of xs)
