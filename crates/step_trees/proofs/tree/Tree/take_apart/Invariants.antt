use Rattle.std.proofs.Common.{◌≡◌, ◌+◌, ◌++◌, map}
use Rattle.std.specs.Prelude.{true}
use Rattle.types.specs.Translation.{fault}
use Rattle.types.specs.Trees.{all_done, lines_of, faults_of, rightmost}
use Rattle.step_trees.specs.Held.{tree_of}
use Rattle.step_trees.proofs.HeldTrees.{weight, weights, with_rights}
use Rattle.step_trees.proofs.tree.Tree.take_apart.Given as goal

-- the output so far, and the output of what remains, is all output
abbrev pub invariant-leaves : goal.invariant-leaves
invariant-leaves l =
    let t = with_rights l.rights.items (tree_of l.self) in
    let whole = tree_of l.fn.self in
    record {
      ended : all_done t ≡ true;
      lines : map (λ v. v.items) l.lines.items ++ lines_of t ≡ lines_of whole;
      faults : map fault l.faults.items ++ faults_of t ≡ faults_of whole;
      owner : rightmost t ≡ rightmost whole;
    }

abbrev pub decreases-leaves : goal.decreases-leaves
decreases-leaves l = weight l.self + weights l.rights.items
