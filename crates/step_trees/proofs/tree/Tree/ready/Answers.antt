use Rattle.std.proofs.Common.{◌≡◌, sym, ap, ◌∙◌, rules, length}
use Rattle.std.specs.Prelude.{false, nat_eq}
use Rattle.types.specs.Trees.{ready}
use Rattle.step_trees.specs.Held.{tree_of}
use Rattle.step_trees.proofs.HeldTrees.{ready_by}
use Rattle.step_trees.proofs.tree.Tree.ready.Goals as goal

pub returns-else-is_empty : goal.returns-else-is_empty
returns-else-is_empty c =
    let some : nat_eq (length c.in-Single.leaf.rest.items) 0 ≡ false = search rules in
    sym (ap (λ t. ready (tree_of t)) c.in-Single.is ∙ ready_by c.in-Single.leaf false some)
