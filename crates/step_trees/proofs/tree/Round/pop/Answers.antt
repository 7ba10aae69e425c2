use Rattle.std.proofs.Common.{◌≡◌, ◌+◌, ap, ◌∙◌, subst, arith}
use Rattle.step_trees.specs.Held.{AreCounted}
use Rattle.step_trees.specs.Places.{lefts, rights, ready_left, ready_right}
use Rattle.step_trees.proofs.Places.{lefts-push, rights-push}
use Rattle.step_trees.proofs.Walks.{counted-pop}
use Rattle.step_trees.proofs.tree.Round.pop.Goals as goal

pub left-requires : goal.left-requires
left-requires c =
    (counted-pop c.pop.new.self.items c.in-Some.around (subst AreCounted c.in-Some.ensures.items c.requires.counted)).1

pub overflow_sub-self : goal.overflow_sub-self
overflow_sub-self c =
    let xs = c.pop.new.self.items in let x = c.in-Some.around in
    let all : lefts c.args.self.now.around.items ≡ lefts xs + ready_left x = ap lefts c.in-Some.ensures.items ∙ lefts-push xs x in
    let old = c.requires.left in let its = c.left.ensures in
    omega (arith, all, old, its)

pub right-requires : goal.right-requires
right-requires c =
    (counted-pop c.pop.new.self.items c.in-Some.around (subst AreCounted c.in-Some.ensures.items c.requires.counted)).1

pub overflow_sub-self-in-Some : goal.overflow_sub-self-in-Some
overflow_sub-self-in-Some c =
    let xs = c.pop.new.self.items in let x = c.in-Some.around in
    let all : rights c.args.self.now.around.items ≡ rights xs + ready_right x = ap rights c.in-Some.ensures.items ∙ rights-push xs x in
    let old = c.requires.right in let its = c.right.ensures in
    omega (arith, all, old, its)

pub returns-in-Some-clause-popped : goal.returns-in-Some-clause-popped
returns-in-Some-clause-popped c =
    let counted = counted-pop c.pop.new.self.items c.in-Some.around (subst AreCounted c.in-Some.ensures.items c.requires.counted) in
    (c.in-Some.ensures.items, counted.1)

pub returns-in-Some-clause-round : goal.returns-in-Some-clause-round
returns-in-Some-clause-round c =
    let xs = c.pop.new.self.items in let x = c.in-Some.around in let items = c.in-Some.ensures.items in
    let left : lefts c.args.self.now.around.items ≡ lefts xs + ready_left x = ap lefts items ∙ lefts-push xs x in
    let right : rights c.args.self.now.around.items ≡ rights xs + ready_right x = ap rights items ∙ rights-push xs x in
    let old_left = c.requires.left in let old_right = c.requires.right in
    let its_left = c.left.ensures in let its_right = c.right.ensures in
    record {
      counted = (counted-pop xs x (subst AreCounted items c.requires.counted)).0;
      left = omega (arith, left, old_left, its_left);
      right = omega (arith, right, old_right, its_right);
    }
