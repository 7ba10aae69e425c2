use Rattle.std.proofs.Common.{◌≡◌, ◌+◌, ◌++◌, ◌∷◌, [], sym, ap, ◌∙◌, subst, arith}
use Rattle.step_trees.specs.Held.{AreCounted}
use Rattle.step_trees.specs.Places.{lefts, rights, ready_left, ready_right}
use Rattle.step_trees.proofs.Places.{lefts-push, rights-push}
use Rattle.step_trees.proofs.Walks.{counted-push}
use Rattle.step_trees.proofs.tree.Round.push.Goals as goal

pub returns-clause-round : goal.returns-clause-round
returns-clause-round c =
    let xs = c.args.self.now.around.items in let x = c.args.around in
    let items : c.push.new.self.items ≡ xs ++ x ∷ [] = c.in_ok-push.ensures.items in
    let left : lefts c.push.new.self.items ≡ lefts xs + ready_left x = ap lefts items ∙ lefts-push xs x in
    let right : rights c.push.new.self.items ≡ rights xs + ready_right x = ap rights items ∙ rights-push xs x in
    let old_left = c.requires.round.left in let old_right = c.requires.round.right in
    let its_left = c.left.ensures in let its_right = c.right.ensures in
    let sum_left = c.in-Some.ensures in let sum_right = c.in-Some-checked_add.ensures in
    record {
      counted = subst AreCounted (sym items) (counted-push xs x c.requires.round.counted c.requires.around);
      left = omega (arith, left, old_left, its_left, sum_left);
      right = omega (arith, right, old_right, its_right, sum_right);
    }
