use Rattle.std.proofs.Common.{◌≡◌, ◌<◌, ◌≤◌, ◌-◌, refl, sym, ap, ◌∙◌, subst, rules, arith}
use Rattle.types.specs.Trees.{ready}
use Rattle.types.specs.TreeSteps.{in_tree}
use Rattle.step_trees.specs.Translation.{leaf_of}
use Rattle.step_trees.specs.Held.{tree_of, inside}
use Rattle.step_trees.proofs.Places.{inside_leaf, inside_step}
use Rattle.step_trees.proofs.Walks.{Way, way-as, way-first, way-left, way-right, single-open, single-leaf, single-step}
use Rattle.step_trees.proofs.tree.Tree.leaf.Goals as goal

pub down-init : goal.down-init
down-init c =
    let xs = c.args.round.around.items in let m = c.args.choice in let t = tree_of c.args.self in
    record {
      round = c.requires.round;
      way = record {
        counted = c.requires.counted;
        below = c.requires.choice;
        leaf = inside_leaf m t c.requires.choice xs;
        steps = λ p a. inside_step m t c.requires.choice p a xs;
      };
    }

pub returns-in-Single : goal.returns-in-Single
returns-in-Single c =
    let xs = c.down.round.around.items in let m = c.down.choice in let k = leaf_of c.in-Single.leaf in
    let w = subst (Way _ _ xs m) c.in-Single.is c.down.invariant.way in
    record {
      leaf = w.leaf ∙ single-leaf k m w.below;
      left = single-open k m w.below;
      round = c.down.invariant.round;
      step = λ p a. w.steps p a ∙ ap (in_tree (inside xs)) (single-step k m w.below p a);
    }

pub down-preserved-in-AndThen : goal.down-preserved-in-AndThen
down-preserved-in-AndThen c =
    let xs = c.down.round.around.items in let m = c.down.choice in
    record {
      round = c.in_ok-push-in-AndThen.ensures.round;
      way =
          way-as _ _ _ _ (sym c.in_ok-push-in-AndThen.ensures.items) refl (sym c.into_inner-self.ensures)
          (way-first _ _ xs m _ c.in-AndThen.first.value c.in-AndThen.behind c.in-AndThen.ready
          (subst (Way _ _ xs m) c.in-AndThen.is c.down.invariant.way));
    }

pub down-preserved-then-choice-before : goal.down-preserved-then-choice-before
down-preserved-then-choice-before c =
    let xs = c.down.round.around.items in let m = c.down.choice in
    let left = c.in-Beside.left.value in
    let before : c.ready-before.result ≡ ready (tree_of left)
    = c.ready-before.ensures ∙ ap (λ t. ready (tree_of t)) c.deref.ensures in
    let less : m < c.ready-before.result = search rules in
    record {
      round = c.in_ok-push-in-Beside.ensures.round;
      way =
          way-as _ _ _ _ (sym c.in_ok-push-in-Beside.ensures.items) refl (sym c.into_inner-self-then-choice-before.ensures)
          (way-left _ _ xs m _ left _ c.in-Beside.right c.in-Beside.ready c.in-Beside.done c.in-Beside.size (omega (arith, less, before))
          (subst (Way _ _ xs m) c.in-Beside.is c.down.invariant.way));
    }

pub down-preserved : goal.down-preserved
down-preserved c =
    let xs = c.down.round.around.items in let m = c.down.choice in
    let left = c.in-Beside.left.value in
    let before : c.ready-before.result ≡ ready (tree_of left)
    = c.ready-before.ensures ∙ ap (λ t. ready (tree_of t)) c.deref.ensures in
    let more : c.ready-before.result ≤ m = search rules in
    record {
      round = c.in_ok-push-in-Beside-2.ensures.round;
      way =
          way-as _ _ _ _ (sym c.in_ok-push-in-Beside-2.ensures.items) refl (sym c.into_inner-self-else-choice-before.ensures)
          (way-right _ _ xs m _ c.in-Beside.left _ c.in-Beside.right.value c.in-Beside.ready c.in-Beside.done c.in-Beside.size
          (m - c.ready-before.result) (omega (arith, more, before)) (ap (λ x. m - x) (sym before))
          (subst (Way _ _ xs m) c.in-Beside.is c.down.invariant.way));
    }
