use Rattle.step_trees.specs.Alike.{AreAlike}
use Rattle.step_trees.proofs.Walks.{up-by}
use Rattle.step_trees.proofs.walk.settled.Goals as goal

pub up-init : goal.up-init
up-init c = record { round = c.requires.round; tree = c.requires.tree; same = AreAlike.same }

pub up-preserved : goal.up-preserved
up-preserved c =
    let next = c.in_ok-tree-in-Some.ensures in
    up-by _ c.up.round c.pop.new.self c.in-Some.around c.up.tree _ c.in-Some.ensures.popped.0 c.pop.ensures.round next.counted next.tree
    c.up.invariant
