use Rattle.std.proofs.Common.{◌≡◌, ◌+◌, ◌∙◌, ap, arith, map}
use Rattle.std.proofs.lemmas.List.{length-map}
use Rattle.types.specs.Translation.{fault}
use Rattle.task_run.specs.Translation.{listed, task_result}
use Rattle.event_worlds.specs.Gathered.{before_children, faults_in}
use Rattle.event_worlds.proofs.Gathers.{some_if}
use Rattle.event_worlds.proofs.scope.more_faults.Goals as goal

pub returns-in_default : goal.returns-in_default
returns-in_default c = λ small.
    let own = length-map c.args.made.now.faults.items fault in
    let long = c.len.ensures in
    c.in_default.ensures (omega (arith, small, own, long))

pub returns : goal.returns
returns c =
    let made = c.args.made.now in
    let own = length-map made.faults.items fault in
    let long = c.len.ensures in
    let first = c.in-Some.ensures.1 in
    let all : c.in-Some.own + before_children (map listed made.children.items) ≡ c.args.number + faults_in (task_result made)
    = omega (arith, own, long, first) in
    some_if c.before_children.result
    (ap (λ xs. c.in-Some.own + before_children (map listed xs)) c.deref.ensures.value ∙ all) c.before_children.ensures
