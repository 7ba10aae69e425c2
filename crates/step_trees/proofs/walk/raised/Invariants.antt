use Rattle.std.proofs.Common.{◌≡◌, vec_len}
use Rattle.std.specs.Prelude.{false}
use Rattle.types.specs.Trees.{all_done}
use Rattle.step_trees.specs.Held.{tree_of, inside}
use Rattle.step_trees.proofs.Walks.{IsLike}
use Rattle.step_trees.proofs.walk.raised.Given as goal

abbrev pub invariant-up : goal.invariant-up
invariant-up l = record {
  up : IsLike (inside l.fn.round.around.items (tree_of l.fn.tree)) l.round l.tree;
  going : all_done (tree_of l.tree) ≡ false;
}

abbrev pub decreases-up : goal.decreases-up
decreases-up l = vec_len l.round.around
