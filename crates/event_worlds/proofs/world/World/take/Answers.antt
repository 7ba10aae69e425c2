use Rattle.std.proofs.Common.{◌≡◌, ◌∙◌, refl, sym, subst, Some}
use Rattle.event_worlds.specs.Events.{Take}
use Rattle.event_worlds.specs.Shown.{Shows, next_world}
use Rattle.event_worlds.specs.World.{World}
use Rattle.event_worlds.specs.declared.task.Whereabouts.TheVariants.{Hand}
use Rattle.event_worlds.specs.declared.world.World.{World as rWorld}
use Rattle.event_worlds.proofs.Moves.{taken}
use Rattle.event_worlds.proofs.world.World.take.Goals as goal

pub returns-clause-taken : goal.returns-clause-taken
returns-clause-taken c = λ w h.
    let old : rWorld = c.args.self.now in
    let path = c.args.path.now in
    let worker = c.args.worker in
    let there = c.if-not-is_in_queue.ensures.there in
    let new : rWorld = record old { tasks = c.move_to.new.self.tasks; hands = c.insert.new.self } in
    subst (λ (r : rWorld). (next : World) × (next_world old.job (Take worker path.turns.items) w ≡ Some next) × Shows r next)
    (sym c.move_to.ensures.others)
    (taken old w h path worker there.0 there.1 there.2 (Hand worker) new (c.move_to.ensures.moved there.0 there.1) worker refl refl
    (sym c.contains.ensures ∙ c.if-contains.false) c.in_ok-insert.ensures.updates.0)
