use Rattle.std.proofs.Common.{vec_len}
use Rattle.step_trees.specs.Held.{tree_of, inside}
use Rattle.step_trees.proofs.Walks.{IsLike}
use Rattle.step_trees.proofs.walk.rooted.Given as goal

abbrev pub invariant-up : goal.invariant-up
invariant-up l = IsLike (inside l.fn.round.around.items (tree_of l.fn.tree)) l.round l.tree

abbrev pub decreases-up : goal.decreases-up
decreases-up l = vec_len l.round.around
