use Rattle.std.proofs.Common.{◌≡◌, sym, subst, Some}
use Rattle.event_worlds.specs.Events.{Pass}
use Rattle.event_worlds.specs.Shown.{Shows, next_world, scope_id}
use Rattle.event_worlds.specs.World.{World}
use Rattle.event_worlds.specs.declared.world.World.{World as rWorld}
use Rattle.event_worlds.proofs.Moves.{passes_beside}
use Rattle.event_worlds.proofs.world.World.pass.Goals as goal

pub pass_root-requires-clause-world : goal.pass_root-requires-clause-world
pass_root-requires-clause-world c = c.requires c.if-is_root_scope.ensures.root

pub returns-clause-passed : goal.returns-clause-passed
returns-clause-passed c = λ w h.
    let old : rWorld = c.args.self.now in
    let id = c.args.scope.now in
    let there = c.if-not-is_complete.ensures.there in
    subst (λ (r : rWorld). (next : World) × (next_world old.job (Pass (scope_id id)) w ≡ Some next) × Shows r next)
    (sym c.mark_passed.ensures.others)
    (passes_beside old w h id there.0 there.1 there.2 c.mark_passed.new.self.scopes (c.mark_passed.ensures.marked there.0 there.1)
    c.if-is_root_scope.ensures.other)
