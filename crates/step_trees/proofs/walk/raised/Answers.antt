use Rattle.std.proofs.Common.{◌≡◌, [], sym, ap, ◌∙◌, subst, arith}
use Rattle.types.specs.Trees.{ready}
use Rattle.step_trees.specs.Alike.{AreAlike}
use Rattle.step_trees.specs.Held.{tree_of, inside}
use Rattle.step_trees.specs.Places.{lefts}
use Rattle.step_trees.proofs.AlikeTrees.{alike-done, alike-ready}
use Rattle.step_trees.proofs.Places.{within_going}
use Rattle.step_trees.proofs.Walks.{up-by}
use Rattle.step_trees.proofs.walk.raised.Goals as goal

pub up-init : goal.up-init
up-init c = record {
  up = record { round = c.requires.round; tree = c.requires.tree; same = AreAlike.same };
  going = c.requires.going;
}

pub returns-in-None : goal.returns-in-None
returns-in-None c =
    let xs = c.pop.new.self.around.items in let t = tree_of c.up.tree in
    let none : xs ≡ [] = c.in-None.ensures.popped.1 in
    let whole = inside c.args.round.around.items (tree_of c.args.tree) in
    let same : AreAlike (inside xs t) whole
    = subst (λ ys. AreAlike (inside ys t) whole) (c.in-None.ensures.popped.0 ∙ sym none) c.up.invariant.up.same in
    let left : lefts xs ≡ 0 = ap lefts none in
    let here : ready (inside xs t) ≡ ready t = ap (λ ys. ready (inside ys t)) none in
    let all = alike-ready same in let choice = c.requires.choice in
    record {
      round = c.pop.ensures.round;
      tree = c.up.invariant.up.tree;
      same = same;
      from = omega (arith, left);
      below = omega (arith, left, here, all, choice);
    }

pub up-preserved : goal.up-preserved
up-preserved c =
    let next = c.in_ok-tree-in-Some.ensures in
    let around = c.in-Some.around in let t = tree_of c.up.tree in
    record {
      up =
          up-by _ c.up.round c.pop.new.self around c.up.tree _ c.in-Some.ensures.popped.0 c.pop.ensures.round next.counted next.tree
          c.up.invariant.up;
      going = alike-done next.tree ∙ within_going around t c.up.invariant.going;
    }
