use Rattle.std.proofs.Common.{◌≡◌, ◌∙◌, ◌+◌, ◌∷◌, ap, arith, drop, length, map, sym}
use Rattle.std.proofs.lemmas.List.{drop_all, drop_more, length-map}
use Rattle.types.specs.Translation.{fault}
use Rattle.task_run.specs.Translation.{listed}
use Rattle.event_worlds.specs.Gathered.{before_children}
use Rattle.event_worlds.proofs.scope.before_children.Goals as goal

pub returns-in_default : goal.returns-in_default
returns-in_default c = λ small.
    let i = c.children.child-index in
    let all = c.args.children.now in
    let item = c.child-item.result in
    let rest = before_children (map listed (drop (i + 1) all)) in
    let split : before_children (map listed (drop i all)) ≡ length item.faults.items + rest =
    ap (λ xs. before_children (map listed xs))
    (drop_more all i item c.children-test.true ∙ ap (λ x. x ∷ drop (i + 1) all) (sym c.child-item.is))
    ∙ ap (λ n. n + rest) (length-map item.faults.items fault) in
    let so_far = c.children.invariant.0 in
    let long = c.len.ensures in
    c.in_default.ensures (omega (arith, small, so_far, split, long))

pub children-preserved : goal.children-preserved
children-preserved c =
    let i = c.children.child-index in
    let all = c.args.children.now in
    let item = c.child-item.result in
    let rest = before_children (map listed (drop (i + 1) all)) in
    let split : before_children (map listed (drop i all)) ≡ length item.faults.items + rest =
    ap (λ xs. before_children (map listed xs))
    (drop_more all i item c.children-test.true ∙ ap (λ x. x ∷ drop (i + 1) all) (sym c.child-item.is))
    ∙ ap (λ n. n + rest) (length-map item.faults.items fault) in
    let so_far = c.children.invariant.0 in
    let long = c.len.ensures in
    let fits = c.in-Some.ensures.0 in
    let more = c.in-Some.ensures.1 in
    (omega (arith, so_far, split, long, more), omega (arith, fits, more))

pub returns : goal.returns
returns c =
    let none = ap (λ xs. before_children (map listed xs)) (drop_all c.children.child-index c.args.children.now c.children-test.false) in
    let so_far = c.children.invariant.0 in
    let small = c.children.invariant.1 in
    (omega (arith, none, so_far, small), omega (arith, none, so_far))
