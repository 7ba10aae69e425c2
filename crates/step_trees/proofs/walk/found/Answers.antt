use Rattle.std.proofs.Common.{◌≡◌, ◌+◌, ◌-◌, ◌<◌, subst, arith}
use Rattle.std.proofs.lemmas.Result.{IfOk-weaker}
use Rattle.types.specs.Trees.{ready}
use Rattle.step_trees.specs.Found.{IsFound}
use Rattle.step_trees.specs.Held.{tree_of, inside}
use Rattle.step_trees.specs.Places.{lefts, whole}
use Rattle.step_trees.proofs.Places.{place_going}
use Rattle.step_trees.proofs.walk.found.Goals as goal

pub raised-requires-clause-going : goal.raised-requires-clause-going
raised-requires-clause-going c =
    let some : 0 < ready (whole c.args.place) = let h = c.requires.choice in omega (arith, h) in
    place_going c.args.place c.requires.place some

pub overflow_sub-inside : goal.overflow_sub-inside
overflow_sub-inside c =
    let r = c.in_ok-round.ensures in let left = r.round.left in let from = r.from in
    omega (arith, left, from)

pub leaf-requires-clause-choice : goal.leaf-requires-clause-choice
leaf-requires-clause-choice c =
    let r = c.in_ok-round.ensures in let left = r.round.left in let from = r.from in let below = r.below in
    omega (arith, left, from, below)

pub returns : goal.returns
returns c =
    let r = c.in_ok-round.ensures in let left = r.round.left in let from = r.from in
    let n = c.args.choice in let xs = c.in_ok-round.round.around.items in let t = tree_of c.in_ok-round.tree in
    let is : lefts xs + (n - c.in_ok-round.round.left) ≡ n = omega (arith, left, from) in
    IfOk-weaker c.leaf.result _ _
    (λ x h. record { tree = inside xs t; alike = r.same; found = subst (λ m. IsFound (inside xs t) m x) is h })
    c.leaf.ensures
