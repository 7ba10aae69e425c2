-- A leaf that was found by its number, and what surrounds it.
use Rattle.std.specs.Prelude.{ℕ, ◌≡◌, Some, false}
use Rattle.types.specs.Code.{Program}
use Rattle.types.specs.Contents.{Contents}
use Rattle.types.specs.Trees.{Tree, is_done}
use Rattle.types.specs.TreeSteps.{leaf_step, in_tree, step, leaf_at}
use Rattle.step_trees.specs.declared.leaf.Leaf.{Leaf as rLeaf}
use Rattle.step_trees.specs.Translation.{leaf_of}
use Rattle.step_trees.specs.declared.tree.Round.{Round}
use Rattle.step_trees.specs.Alike.{AreAlike}
use Rattle.step_trees.specs.Held.{inside}
use Rattle.step_trees.specs.Places.{IsRound}

-- the n-th leaf that may step, and what surrounds it: its step is the step of the tree
pub record IsFound (t : Tree) (n : ℕ) (r : Round × rLeaf) : Type 0 where
  pub leaf : leaf_at n t ≡ Some (leaf_of r.1)
  pub left : is_done (leaf_of r.1).rest ≡ false
  pub round : IsRound r.0
  pub step : (p : Program) (a : Contents) → step p n t a
      ≡ in_tree (inside r.0.around.items) (leaf_step p (leaf_of r.1).rest (leaf_of r.1) a)

-- the leaf was found in a tree that is alike
pub record IsFoundAlike (t : Tree) (n : ℕ) (r : Round × rLeaf) : Type 0 where
  pub tree : Tree
  pub alike : AreAlike tree t
  pub found : IsFound tree n r
