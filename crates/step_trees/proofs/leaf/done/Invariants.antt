use Rattle.std.proofs.Common.{◌≡◌, vec_len}
use Rattle.types.specs.Trees.{done}
use Rattle.step_trees.specs.Translation.{leaf_of}
use Rattle.step_trees.proofs.leaf.done.Given as goal

-- the finished leaf stays the same
abbrev pub invariant-calls : goal.invariant-calls
invariant-calls l = done (leaf_of l.leaf) ≡ done (leaf_of l.fn.leaf)

abbrev pub decreases-calls : goal.decreases-calls
decreases-calls l = vec_len l.leaf.callers
