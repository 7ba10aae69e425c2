-- No live task has more weight in a scope than the scope has out.
use Rattle.std.proofs.Common.{◌≡◌, ℕ, ◌≤◌, List, [], ◌∷◌, ap, inl, inr, arith}
use Rattle.std.specs.Prelude.{◌⊎◌, Bool, Contains, if◌then◌else◌}
use Rattle.task_run.specs.Results.{TaskResult}
use Rattle.task_run.specs.OwnRun.{Start, Action}
use Rattle.event_worlds.specs.World.{Stake, same_scope, weight_in}
use Rattle.event_worlds.proofs.WorldLaws.{NoneIsLate}
use Rattle.event_worlds.proofs.Lookups.{scope_is, held_least}
use Rattle.event_worlds.proofs.Histories.{contains_nil, contains_cons}
use Rattle.event_worlds.proofs.Reached.{weights_add_up}

-- a stake has at most the weight of its task in its scope
stake_least : (ss : List Stake) (k : Stake) → Contains ss k → k.weight ≤ weight_in k.scope ss
stake_least [] k c = absurd (contains_nil k c)
stake_least (s ∷ ss) k c = by_place (contains_cons s ss k c) (stake_least ss k)
  where
    by_place : (s ≡ k) ⊎ Contains ss k → (Contains ss k → k.weight ≤ weight_in k.scope ss) → k.weight ≤ weight_in k.scope (s ∷ ss)
    by_place (inl e) rec =
        let a : (if same_scope s.scope k.scope then s.weight else 0) ≡ s.weight = ap (λ (b : Bool). if b then s.weight else 0) (scope_is (ap (λ (s : Stake). s.scope) e)) in
        let b : s.weight ≡ k.weight = ap (λ (s : Stake). s.weight) e in
        omega (arith, a, b)
    by_place (inr d) rec = let a = rec d in omega (arith, a)

pub none_is_late : (w0 : ℕ) (actions : Start → List (List TaskResult) → List Action) (result : Start → List (List TaskResult) → TaskResult) → NoneIsLate w0 actions result
none_is_late w0 actions result least root es w f path t k s e c g =
    let books = weights_add_up w0 actions result least root es w f k.scope s g in
    let mine = stake_least t.stakes k c in
    let all = held_least k.scope path t w.live e in
    omega (arith, books, mine, all)
