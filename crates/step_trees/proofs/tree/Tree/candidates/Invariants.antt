use Rattle.std.proofs.Common.{◌≡◌, ◌+◌, ◌++◌, map}
use Rattle.step_trees.specs.Held.{tree_of}
use Rattle.step_trees.specs.Standing.{candidate_of, candidates}
use Rattle.step_trees.proofs.HeldTrees.{weight, weights, with_rights}
use Rattle.step_trees.proofs.tree.Tree.candidates.Given as goal

-- the tasks so far, and those of what remains, are all of them
abbrev pub invariant-leaves : goal.invariant-leaves
invariant-leaves l =
    map candidate_of l.found.items ++ candidates (with_rights l.rights.items (tree_of l.self)) ≡ candidates (tree_of l.fn.self)

abbrev pub decreases-leaves : goal.decreases-leaves
decreases-leaves l = weight l.self + weights l.rights.items
