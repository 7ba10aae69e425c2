use Rattle.std.proofs.Common.{◌≡◌, sym, ap, ◌∙◌, rules, length}
use Rattle.std.specs.Prelude.{nat_eq}
use Rattle.types.specs.Trees.{all_done}
use Rattle.step_trees.specs.Held.{tree_of}
use Rattle.step_trees.proofs.HeldTrees.{done_by}
use Rattle.step_trees.proofs.tree.Tree.is_done.Goals as goal

pub returns-in-Single : goal.returns-in-Single
returns-in-Single c =
    let empty : nat_eq (length c.in-Single.leaf.rest.items) 0 ≡ c.is_empty.result = search rules in
    sym (ap (λ t. all_done (tree_of t)) c.in-Single.is ∙ done_by c.in-Single.leaf c.is_empty.result empty)
