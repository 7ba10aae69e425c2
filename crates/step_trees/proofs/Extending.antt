-- Where lists of choices lead that begin alike.
use Rattle.std.proofs.Common.{◌≡◌, ℕ, ◌+◌, ◌<◌, ◌≤◌, List, [], ◌∷◌, ◌++◌, length, Option, Some, None, refl, sym, ap, ◌∙◌, subst, arith}
use Rattle.std.proofs.lemmas.List.{append-nil, length-append}
use Rattle.std.specs.Prelude.{Bool, true, false, nat_lt, if◌then◌else◌}
use Rattle.types.specs.Code.{Codes, End, Then, Program}
use Rattle.types.specs.Contents.{Contents}
use Rattle.types.specs.Outcome.{Outcome, Ended}
use Rattle.types.specs.Trees.{Leaf, Tree, Single, AndThen, Beside, all_done, is_done, ready}
use Rattle.types.specs.TreeRuns.{tree_ending}
use Rattle.types.specs.TreeSteps.{step}
use Rattle.step_trees.specs.Standing.{EndsBeyond, HasEnded, MayStep, Misses, Standing, candidates, candidates_by, stands_at, stands_on, standing_from}
use Rattle.step_trees.proofs.Places.{done_ready}
use Rattle.step_trees.proofs.Standings.{stands-missing}
use Rattle.step_trees.proofs.Steps.{below_if, above_if}

-- as many tasks are listed as may step
count_leaf : (c : Codes) (k : Leaf) → length (candidates_by c k) ≡ (if is_done c then 0 else 1)
count_leaf End k = refl
count_leaf (Then l s rest) k = refl

pub candidates-count : (t : Tree) → length (candidates t) ≡ ready t
candidates-count (Single k) = count_leaf k.rest k
candidates-count (AndThen t h k) = candidates-count t
candidates-count (Beside t u) =
    let left = candidates-count t in let right = candidates-count u in let all = length-append (candidates t) (candidates u) in
    omega (arith, left, right, all)

module _ (p : Program) where
  -- where a list leads, whatever follows it
  data Way (n : ℕ) (cs : List ℕ) (t : Tree) (a : Contents) : Type 0 where
    on : (m : ℕ) (u : Tree) (b : Contents)
        → ((ys : List ℕ) → standing_from p n (cs ++ ys) t a ≡ standing_from p m ys u b) → Way n cs t a
    off : (m : ℕ) → ((ys : List ℕ) → standing_from p n (cs ++ ys) t a ≡ Misses m) → Way n cs t a

  further : (n c : ℕ) (cs : List ℕ) (t : Tree) (a : Contents) (x : Tree × Contents) → step p c t a ≡ Some x
      → Way (n + 1) cs x.0 x.1 → Way n (c ∷ cs) t a
  further n c cs t a x e (Way.on m u b whole) =
      Way.on m u b (λ ys. ap (stands_on n (standing_from p (n + 1) (cs ++ ys))) e ∙ whole ys)
  further n c cs t a x e (Way.off m whole) =
      Way.off m (λ ys. ap (stands_on n (standing_from p (n + 1) (cs ++ ys))) e ∙ whole ys)

  way : (n : ℕ) (cs : List ℕ) (t : Tree) (a : Contents) → Way n cs t a
  way n [] t a = Way.on n t a (λ ys. refl)
  way n (c ∷ cs) t a = by (step p c t a) refl (way (n + 1) cs)
    where
      by : (s : Option (Tree × Contents)) → step p c t a ≡ s → ((u : Tree) (b : Contents) → Way (n + 1) cs u b) → Way n (c ∷ cs) t a
      by None e go = Way.off n (λ ys. ap (stands_on n (standing_from p (n + 1) (cs ++ ys))) e)
      by (Some x) e go = further n c cs t a x e (go x.0 x.1)

  -- what may follow in a tree
  module _ (m : ℕ) (u : Tree) (b : Contents) (o : Outcome) where
    abbrev stands_if : Bool → Standing
    stands_if z = if z then HasEnded (Ended (tree_ending p u b)) else MayStep (candidates u)

    none_follows : (z : Bool) → all_done u ≡ z → stands_at p u b ≡ HasEnded o → EndsBeyond (stands_if z) [] o
    none_follows true e h =
        let same : HasEnded (Ended (tree_ending p u b)) ≡ HasEnded o = sym (ap stands_if e) ∙ h in (refl, cc)
    none_follows false e h =
        let same : MayStep (candidates u) ≡ HasEnded o = sym (ap stands_if e) ∙ h in cc

    missed : (c : ℕ) (cs : List ℕ) {A : Type 0} → ready u ≤ c → standing_from p m (c ∷ cs) u b ≡ HasEnded o → A
    missed c cs past h =
        let bad : Misses m ≡ HasEnded o = sym (stands-missing p u b m c cs past) ∙ h in cc

    one_follows : (c : ℕ) (cs : List ℕ) (z : Bool) → all_done u ≡ z → standing_from p m (c ∷ cs) u b ≡ HasEnded o
        → EndsBeyond (stands_if z) (c ∷ cs) o
    one_follows c cs true e h =
        let none = done_ready u e in missed c cs (omega (arith, none)) h
    one_follows c cs false e h = by (nat_lt c (ready u)) refl
      where
        by : (z : Bool) → nat_lt c (ready u) ≡ z → EndsBeyond (MayStep (candidates u)) (c ∷ cs) o
        by true is =
            let below : c < ready u = below_if c (ready u) is in let count = candidates-count u in
            (c, cs, refl, omega (arith, below, count))
        by false is = missed c cs (above_if c (ready u) is) h

  follows : (m : ℕ) (u : Tree) (b : Contents) (ys : List ℕ) (o : Outcome) → standing_from p m ys u b ≡ HasEnded o
      → EndsBeyond (stands_at p u b) ys o
  follows m u b [] o h = none_follows m u b o (all_done u) refl h
  follows m u b (c ∷ cs) o h = one_follows m u b o c cs (all_done u) refl h

  pub beyond : (n : ℕ) (cs : List ℕ) (t : Tree) (a : Contents) (ys : List ℕ) (o : Outcome)
      → standing_from p n (cs ++ ys) t a ≡ HasEnded o → EndsBeyond (standing_from p n cs t a) ys o
  beyond n cs t a ys o h = by (way n cs t a)
    where
      by : Way n cs t a → EndsBeyond (standing_from p n cs t a) ys o
      by (Way.on m u b whole) =
          let here : stands_at p u b ≡ standing_from p n cs t a
          = sym (whole []) ∙ ap (λ l. standing_from p n l t a) (append-nil cs) in
          subst (λ w. EndsBeyond w ys o) here (follows m u b ys o (sym (whole ys) ∙ h))
      by (Way.off m whole) = let bad : Misses m ≡ HasEnded o = sym (whole ys) ∙ h in cc
