use Rattle.std.proofs.Common.{◌≡◌, sym, ap, subst, Some}
use Rattle.event_worlds.specs.Events.{Pass}
use Rattle.event_worlds.specs.Shown.{Shows, next_world, scope_id}
use Rattle.event_worlds.specs.World.{World}
use Rattle.event_worlds.specs.declared.world.World.{World as rWorld}
use Rattle.event_worlds.proofs.Moves.{passes}
use Rattle.event_worlds.proofs.Told.{root_passed}
use Rattle.event_worlds.proofs.world.World.pass_root.Goals as goal

pub returns-clause-passed : goal.returns-clause-passed
returns-clause-passed c = λ w h.
    let old : rWorld = c.args.self.now in
    let id = c.args.scope.now in
    let there = c.requires.complete in
    let told = Some c.in_ok-told.told in
    let ok = c.requires.world.job in
    subst (λ (r : rWorld). (next : World) × (next_world old.job (Pass (scope_id id)) w ≡ Some next) × Shows r next)
    (sym (ap (λ (r : rWorld). record r { told = told }) c.mark_passed.ensures.others))
    (passes old w h id there.0 there.1 there.2 c.mark_passed.new.self.scopes (c.mark_passed.ensures.marked there.0 there.1) told
    (root_passed old ok w h id c.requires.root there.0 there.1 there.2, c.in_ok-told.ensures.told))
