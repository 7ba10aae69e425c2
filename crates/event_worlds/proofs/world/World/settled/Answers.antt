use Rattle.std.proofs.Common.{◌∙◌, ap, map, sym}
use Rattle.std.proofs.lemmas.Option.{same_Some}
use Rattle.types.specs.Code.{Program}
use Rattle.task_run.specs.Given.{told_of}
use Rattle.task_run.specs.Translation.{settled, task_result}
use Rattle.event_worlds.specs.declared.scope.WorldScope.{WorldScope as rScope}
use Rattle.event_worlds.proofs.Told.{copies_tell}
use Rattle.event_worlds.proofs.world.World.settled.Goals as goal

pub returns-clause-told : goal.returns-clause-told
returns-clause-told c =
    let r = c.requires.world in
    let there = c.requires.complete in
    let same = same_Some _ _ (sym there.1 ∙ sym c.in-Some.ensures.value) in
    c.in_ok-told.ensures.told
    ∙ ap (λ (p : Program). told_of p (settled c.in-Ok.settled)) c.plan.ensures.program
    ∙ copies_tell c.args.self.now r.job r.world r.shows c.args.scope.now c.requires.root there.0 there.1 there.2
    c.root-path.result c.root-path.ensures c.in-Some-get.task.now (sym c.in-Some-get.ensures.value)
    c.in-AtEnd-Some.made c.in-AtEnd-Some.is-0 c.in-AtEnd-Some.results
    (ap (λ (s : rScope). s.results) same ∙ c.in-AtEnd-Some.is-1)
    c.in_ok-made.made c.in_ok-made.ensures c.in_ok-results.results.items
    (c.in_ok-results.ensures ∙ ap (map task_result) c.deref.ensures.value)
    _ c.in-Ok.ensures.settled
