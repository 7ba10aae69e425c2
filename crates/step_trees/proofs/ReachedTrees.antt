-- Facts about the reachable trees of an accepted program.
use Rattle.std.proofs.Common.{◌≡◌, ℕ, ◌<◌, List, [], Some, sym, ◌∙◌}
use Rattle.std.specs.Prelude.{true, ℤ}
use Rattle.types.specs.Code.{Program}
use Rattle.types.specs.Contents.{Contents, held_by}
use Rattle.types.specs.Outcome.{Budget, IsLarger, Ended, outcome}
use Rattle.types.specs.Trees.{Tree, all_done}
use Rattle.types.specs.TreeSteps.{step, first_tree}
use Rattle.types.specs.TreeRuns.{Runs, Reachable, tree_ending}
use Rattle.effects.specs.Sound.{IsSound}
use Rattle.race_checker.specs.Clash.{IsAccepted}
use Rattle.race_checker.proofs.Calming.{is_calm}
use Rattle.step_trees.specs.Still.{Separate, still}
use Rattle.step_trees.specs.Laws.{ParIn, Commutes, GoesOn}
use Rattle.step_trees.proofs.Steps.{step_from, step_to, step_leaf}
use Rattle.step_trees.proofs.GoodTrees.{Good, first_good, reachable_good}
use Rattle.step_trees.proofs.CommutingSteps.{commute, ends_alike}
use Rattle.step_trees.proofs.FirstLeaves.{leftmost}
use Rattle.step_trees.proofs.Lawful.{sound_parts}
use Rattle.step_trees.proofs.OneThread.{left_run_ends}

apart_in : (p : Program) {t u v : Tree} → ParIn t u v → (keep : List ℕ) → Good p keep v
    → Separate (still p t) (still p u)
apart_in p ParIn.here keep (Good.is_beside g h apart) = apart
apart_in p (ParIn.first i) keep (Good.is_then scope st handler g same) = apart_in p i scope g
apart_in p (ParIn.left i) keep (Good.is_beside {other = other} g h apart) = apart_in p i other g
apart_in p (ParIn.right i) keep (Good.is_beside g h apart) = apart_in p i keep h

module _ (p : Program) (sound : IsSound p) (accepted : IsAccepted p) where
  pub sides_apart : (input : Contents) (v : Tree) (a : Contents) → Reachable p input v a → (t u : Tree) → ParIn t u v
      → Separate (still p t) (still p u)
  sides_apart input v a r t u i = apart_in p i [] (reachable_good p sound accepted input v a r)

  pub order_open : (input : Contents) (t : Tree) (a : Contents) → Reachable p input t a → (m n : ℕ) → m < n
      → (u v : Tree) (b c : Contents)
      → step p m t a ≡ Some (u, b) → step p n t a ≡ Some (v, c) → Commutes p m n t u b v c
  order_open input t a r m n h u v b c e f =
      let s = step_from p t m a u b e in
      let s2 = step_from p t n a v c f in
      let o = commute p s.1 s2.1 h [] (reachable_good p sound accepted input t a r) in
      record {
        tree = o.tree;
        store = o.store;
        number = o.number;
        same_second = step_leaf p o.second ∙ sym (step_leaf p s2.1);
        same_first = step_leaf p o.first ∙ sym (step_leaf p s.1);
        second = step_to p o.second;
        first = step_to p o.first;
      }

  pub ends_alike_at : (input : Contents) (n : ℕ) (t : Tree) (a : Contents) → Runs p n (first_tree p) input t a
      → all_done t ≡ true
      → (m : ℕ) (u : Tree) (b : Contents) → Runs p m (first_tree p) input u b → GoesOn p m n u b t a
  ends_alike_at input n t a r d m u b r2 =
      let g = ends_alike p sound accepted r2 n t a r d [] (first_good p sound (is_calm p sound accepted)) in
      record { more = g.0; count = g.1; runs = g.2 }

  pub ends_as_one : (arrays : List (List ℤ)) (n : ℕ) (t : Tree) (a : Contents)
      → Runs p n (first_tree p) (held_by arrays) t a → all_done t ≡ true
      → (b : Budget) → IsLarger b (record { steps = n; nest = n }) → outcome p arrays b ≡ Ended (tree_ending p t a)
  ends_as_one arrays n t a r d =
      left_run_ends p (sound_parts p sound) arrays n t a (leftmost p sound accepted n r d [] (first_good p sound (is_calm p sound accepted))) d
