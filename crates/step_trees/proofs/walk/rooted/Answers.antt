use Rattle.std.proofs.Common.{subst}
use Rattle.step_trees.specs.Alike.{AreAlike}
use Rattle.step_trees.specs.Held.{tree_of, inside}
use Rattle.step_trees.proofs.Walks.{up-by}
use Rattle.step_trees.proofs.walk.rooted.Goals as goal

pub up-init : goal.up-init
up-init c = record { round = c.requires.round; tree = c.requires.tree; same = AreAlike.same }

pub returns-in-None : goal.returns-in-None
returns-in-None c =
    let whole = inside c.args.round.around.items (tree_of c.args.tree) in
    subst (λ xs. AreAlike (inside xs (tree_of c.up.tree)) whole) c.in-None.ensures.popped.0 c.up.invariant.same

pub up-preserved : goal.up-preserved
up-preserved c =
    let next = c.in_ok-tree-in-Some.ensures in
    up-by _ c.up.round c.pop.new.self c.in-Some.around c.up.tree _ c.in-Some.ensures.popped.0 c.pop.ensures.round next.counted next.tree
    c.up.invariant
