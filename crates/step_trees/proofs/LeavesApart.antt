-- Leaves of a reachable tree of an accepted program: what they are about to do, and where they are.
use Rattle.std.proofs.Common.{◌≡◌, ◌≢◌, ◌⊎◌, inl, inr, ℕ, ◌<◌, List, [], ◌∷◌, Some, arith}
use Rattle.sections.specs.Place.{Place}
use Rattle.sections.specs.Member.{Member}
use Rattle.types.specs.Code.{Codes, End, Then, Program}
use Rattle.types.specs.Contents.{Contents, read}
use Rattle.types.specs.Value.{Environment}
use Rattle.types.specs.Trees.{Caller, Leaf, Tree}
use Rattle.types.specs.TreeSteps.{leaf_at}
use Rattle.types.specs.TreeRuns.{Reachable}
use Rattle.types.specs.TreePlaces.{first_reads, first_writes, next_reads, next_writes}
use Rattle.effects.specs.Effects.{AllOf, All, accesses}
use Rattle.effects.specs.Footprint.{Touches, Overwrites}
use Rattle.effects.specs.Sound.{IsSound}
use Rattle.race_checker.specs.Clash.{IsAccepted}
use Rattle.step_trees.specs.Still.{Separate, left_of, still}
use Rattle.step_trees.specs.Laws.{LeafFits, ThenIn, OwnerKeeps}
use Rattle.step_trees.proofs.Steps.{Step, step_below, step_at}
use Rattle.step_trees.proofs.Footprints.{Within, within_itself, within_trans, first_within, second_within, separate_within}
use Rattle.step_trees.proofs.PlacedStatements.{IsPlaced, all_scoped, turns_scoped}
use Rattle.step_trees.proofs.GoodTrees.{Stack, Good, reachable_good}
use Rattle.step_trees.proofs.PlacesTouched.{step_touches, step_overwrites}

module _ (p : Program) where
  leaf_within : {n : ℕ} {k : Leaf} {t u : Tree} {a b : Contents} → Step p n k t a u b
      → Within (left_of p k) (still p t)
  leaf_within (Step.here r e f) = within_itself _
  leaf_within (Step.first s e) = within_trans (leaf_within s) (first_within _ _)
  leaf_within (Step.left s) = within_trans (leaf_within s) (first_within _ _)
  leaf_within (Step.right e s) = within_trans (leaf_within s) (second_within _ _)

  -- two leaves keep apart in all that they have left
  leaves_apart : {m n : ℕ} {j k : Leaf} {t u v : Tree} {a b c : Contents} → Step p m j t a u b → Step p n k t a v c
      → m < n
      → (keep : List ℕ) → Good p keep t → Separate (left_of p j) (left_of p k)
  leaves_apart (Step.here _ _ _) (Step.here _ _ _) h keep g = absurd (omega arith)
  leaves_apart (Step.first s _) (Step.first s2 _) h keep (Good.is_then scope st handler g same) = leaves_apart s s2 h scope g
  leaves_apart (Step.left s) (Step.left s2) h keep (Good.is_beside {other = other} g g2 apart) = leaves_apart s s2 h other g
  leaves_apart (Step.right e s) (Step.right e2 s2) h keep (Good.is_beside g g2 apart) = leaves_apart s s2 (omega arith) keep g2
  leaves_apart (Step.right e s) (Step.left s2) h keep g = absurd (let x = step_below p s2 in omega arith)
  leaves_apart (Step.left s) (Step.right e s2) h keep (Good.is_beside g g2 apart) = separate_within (leaf_within s) (leaf_within s2) apart

  first_touches : (env : Environment) (a : Contents) (q : Place) (c : Codes) → Member q (first_reads env (read a) c)
      → Touches env (All p accesses c) q
  first_touches env a q End h = elim h [ ]
  first_touches env a q (Then l s rest) h =
      let t = step_touches env (read a) q l s h in
      record { access = t.access; among = All.here (AllOf.own_access t.among); place = t.place }

  first_overwrites : (env : Environment) (a : Contents) (q : Place) (c : Codes)
      → Member q (first_writes env (read a) c) → Overwrites env (All p accesses c) q
  first_overwrites env a q End h = elim h [ ]
  first_overwrites env a q (Then l s rest) h =
      let t = step_overwrites env (read a) q l s h in
      record { access = t.access; among = All.here (AllOf.own_access t.among); place = t.place; writes = t.writes }

  next_touched : (k : Leaf) (a : Contents) (q : Place) → Member q (next_reads k a) ⊎ Member q (next_writes k a)
      → (left_of p k).touches q
  next_touched k a q (inl h) = inl (inl (first_touches k.environment a q k.rest h))
  next_touched k a q (inr h) =
      let t = first_overwrites k.environment a q k.rest h in
      inl (inl (record { access = t.access; among = t.among; place = t.place }))

  next_written : (k : Leaf) (a : Contents) (q : Place) → Member q (next_writes k a) → (left_of p k).writes q
  next_written k a q h = inl (inl (first_overwrites k.environment a q k.rest h))

  stack_of : {n : ℕ} {k : Leaf} {t u : Tree} {a b : Contents} → Step p n k t a u b → (keep : List ℕ) → Good p keep t
      → (other scope : List ℕ) × Stack p other scope k.environment k.rest k.callers
  stack_of (Step.here _ _ _) keep (Good.is_leaf scope st) = (keep, scope, st)
  stack_of (Step.first s _) keep (Good.is_then scope st handler g same) = stack_of s scope g
  stack_of (Step.left s) keep (Good.is_beside {other = other} g g2 apart) = stack_of s other g
  stack_of (Step.right e s) keep (Good.is_beside g g2 apart) = stack_of s keep g2

  placed_of : (keep scope : List ℕ) (env : Environment) (c : Codes) (fs : List Caller) → Stack p keep scope env c fs
      → (other : List ℕ) × IsPlaced p other scope env c
  placed_of keep scope env c [] s = (keep, s)
  placed_of keep scope env c (f ∷ fs) s = ([], s.0)

module _ (p : Program) (sound : IsSound p) where
  owner_in : {t : Tree} (k : Leaf) {v : Tree} → ThenIn t k v → (keep : List ℕ) → Good p keep v → OwnerKeeps p t k
  owner_in k ThenIn.here keep (Good.is_then scope st handler g same) =
      let placed = (placed_of p keep scope k.environment k.rest k.callers st).1 in
      record { scope = scope; in_scope = all_scoped p sound placed; turns_in_scope = turns_scoped p sound placed; same = same }
  owner_in k (ThenIn.first i) keep (Good.is_then scope st handler g same) = owner_in k i scope g
  owner_in k (ThenIn.left i) keep (Good.is_beside {other = other} g h apart) = owner_in k i other g
  owner_in k (ThenIn.right i) keep (Good.is_beside g h apart) = owner_in k i keep h

module _ (p : Program) (sound : IsSound p) (accepted : IsAccepted p) (input : Contents) (t : Tree) (a : Contents) (r : Reachable p input t a) where
  -- no two leaves are about to access one place that one of them writes
  pub no_race : (m n : ℕ) → m ≢ n → (j k : Leaf) → leaf_at m t ≡ Some j → leaf_at n t ≡ Some k → (q : Place)
      → Member q (next_writes j a) → Member q (next_reads k a) ⊎ Member q (next_writes k a) → ⊥
  no_race m n ne j k e f q w h =
      let s = step_at p t m j a e in
      let s2 = step_at p t n k a f in
      let g = reachable_good p sound accepted input t a r in
      elim (sides m n ne) [
        | inl less ↦ (leaves_apart p s.step s2.step less [] g).writes_first q (next_written p j a q w) (next_touched p k a q h)
        | inr less ↦ (leaves_apart p s2.step s.step less [] g).writes_second q (next_touched p k a q h) (next_written p j a q w)
      ]
    where
      sides : (m n : ℕ) → m ≢ n → (m < n) ⊎ (n < m)
      sides m n ne = grind arith

  -- each leaf's environment fits its procedure
  pub leaf_fits : (n : ℕ) (k : Leaf) → leaf_at n t ≡ Some k → LeafFits p k
  leaf_fits n k e =
      let s = step_at p t n k a e in
      let st = stack_of p s.step [] (reachable_good p sound accepted input t a r) in
      let placed = (placed_of p st.0 st.1 k.environment k.rest k.callers st.2).1 in
      record {
        procedure = placed.procedure;
        scope = st.1;
        fits = placed.stands.block.fits;
        in_scope = all_scoped p sound placed;
        turns_in_scope = turns_scoped p sound placed;
      }

  -- the environment with which a `<k>` continues is its own, except for scalars
  pub owner_keeps : (u : Tree) (k : Leaf) → ThenIn u k t → OwnerKeeps p u k
  owner_keeps u k i = owner_in p sound k i [] (reachable_good p sound accepted input t a r)
