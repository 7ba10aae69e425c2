use Rattle.std.proofs.lemmas.Bool.{eqb-false}
use Rattle.std.proofs.Common.{◌≡◌, ◌∙◌, refl, sym, subst, Some}
use Rattle.event_worlds.specs.Events.{Steal}
use Rattle.event_worlds.specs.Shown.{Shows, next_world}
use Rattle.event_worlds.specs.World.{World}
use Rattle.event_worlds.specs.declared.task.Whereabouts.TheVariants.{Queue}
use Rattle.event_worlds.specs.declared.world.World.{World as rWorld}
use Rattle.event_worlds.proofs.Moves.{stolen}
use Rattle.event_worlds.proofs.world.World.steal.Goals as goal

pub returns-clause-stolen : goal.returns-clause-stolen
returns-clause-stolen c = λ w h.
    let old : rWorld = c.args.self.now in
    let path = c.args.path.now in
    let worker = c.args.worker in
    let from = c.args.from in
    let there = c.if-not-is_in_queue.ensures.there in
    let new : rWorld = record old { tasks = c.move_to.new.self.tasks } in
    subst (λ (r : rWorld). (next : World) × (next_world old.job (Steal worker from path.turns.items) w ≡ Some next) × Shows r next)
    (sym c.move_to.ensures.others)
    (stolen old w h path from there.0 there.1 there.2 (Queue worker) new (c.move_to.ensures.moved there.0 there.1) worker refl
    (eqb-false from worker (sym c.eq.ensures ∙ c.if-eq.false)) refl)
