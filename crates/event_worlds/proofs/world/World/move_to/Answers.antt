use Rattle.std.proofs.Common.{◌∙◌, rules, subst}
use Rattle.std.proofs.lemmas.Option.{same_Some}
use Rattle.event_worlds.specs.Shown.{PutsTask}
use Rattle.event_worlds.specs.declared.task.WorldTask.{WorldTask as rTask}
use Rattle.event_worlds.specs.declared.world.World.{World as rWorld}
use Rattle.event_worlds.proofs.world.World.move_to.Goals as goal

pub returns-in-Some-clause-moved : goal.returns-in-Some-clause-moved
returns-in-Some-clause-moved c = λ k at.
    let old : rWorld = c.args.self.now in
    let moved : rTask → rTask = λ k. record k { place = c.args.place } in
    let to = moved c.in-Some.task.now in
    let new : rWorld = record old { tasks = c.get_mut.follows.lender to } in
    subst (λ (k : rTask). PutsTask old new c.args.path.now (moved k)) (same_Some _ _ (c.in-Some.ensures.value ∙ at))
    ((c.get_mut.follows.holds to).3 (search rules)).0
