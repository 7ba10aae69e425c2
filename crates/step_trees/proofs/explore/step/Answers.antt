use Rattle.std.proofs.Common.{◌≡◌, sym, ap, ◌∙◌, Some}
use Rattle.types.specs.Translation.{program}
use Rattle.types.specs.Trees.{Tree}
use Rattle.types.specs.TreeSteps.{step, in_tree}
use Rattle.statement_steps.specs.Lists.{lists_of, contents_of}
use Rattle.statement_steps.proofs.Ends.{fits_too}
use Rattle.step_trees.specs.Translation.{leaf_of}
use Rattle.step_trees.proofs.Turns.{some_of}
use Rattle.step_trees.specs.Alike.{AreAlike}
use Rattle.step_trees.specs.Held.{tree_of, inside}
use Rattle.step_trees.specs.Places.{whole}
use Rattle.step_trees.proofs.AlikeTrees.{alike-back, alike-comes, alike-lies}
use Rattle.step_trees.proofs.LyingTrees.{leaf-lies, step-lies}
use Rattle.step_trees.proofs.explore.step.Goals as goal

pub step-requires-clause-bounds : goal.step-requires-clause-bounds
step-requires-clause-bounds c =
    let p = program c.args.plan.program.now in let r = c.in_ok-round.ensures in
    record {
      store = c.requires.held.store;
      windows =
          (leaf-lies p c.args.choice r.tree (leaf_of c.in_ok-round.leaf) r.found.leaf
          (alike-lies p (alike-back r.alike) c.requires.held.windows)).0;
    }

pub returns : goal.returns
returns c =
    let p = program c.args.plan.program.now in let a = contents_of c.args.course.store in
    let n = c.args.choice in let t = whole c.args.course.place in let b = contents_of c.in_ok-becomes.store in
    let r = c.in_ok-round.ensures in
    let xs = c.in_ok-round.round.around.items in
    let v = inside xs (tree_of c.in_ok-tree.tree) in
    let same : step p n r.tree a ≡ Some (v, b)
    = r.found.step p a ∙ ap (in_tree (inside xs)) c.in_ok-becomes.ensures.step
    ∙ ap (λ (u : Tree). some_of (inside xs u) b) (sym c.in_ok-tree.ensures.tree) in
    let comes = alike-comes p n a r.alike same in
    let alike = AreAlike.through c.in_ok-place.ensures.whole comes.alike in
    record {
      tree = comes.tree;
      alike = alike;
      step = comes.step;
      held = record {
        place = c.in_ok-place.ensures.place;
        windows =
            alike-lies p (alike-back alike) (step-lies p n t comes.tree a b comes.step c.requires.held.windows);
        store =
            fits_too p.arrays (lists_of c.args.course.store) (lists_of c.in_ok-becomes.store) c.requires.held.store
            c.in_ok-becomes.ensures.lengths;
      };
    }
