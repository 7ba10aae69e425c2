use Rattle.std.proofs.Common.{◌∙◌, sym}
use Rattle.types.specs.Translation.{environment}
use Rattle.event_worlds.specs.NextKinds.{does}
use Rattle.event_worlds.specs.declared.next.First.TheVariants.{Goes}
use Rattle.event_worlds.specs.declared.next.NextKind.TheVariants.{Step}
use Rattle.event_worlds.proofs.NextKinds.{no_turn_left, turn_left}
use Rattle.event_worlds.proofs.next.first_turn.Goals as goal

pub returns-in-None : goal.returns-in-None
returns-in-None c =
    let t = c.args.turns in
    sym (no_turn_left ((environment c.args.environment.now).windows t.section.number) t.size t.next
    (does c.args.nest c.args.steps c.args.flow Step) (Goes c.args.flow) c.in-None.ensures.piece)

pub returns-in-Some : goal.returns-in-Some
returns-in-Some c =
    let t = c.args.turns in
    c.first_by.ensures
    ∙ sym (turn_left ((environment c.args.environment.now).windows t.section.number) _ t.size t.next
    (does c.args.nest c.args.steps c.args.flow Step) (Goes c.args.flow) c.in-Some.ensures.piece)
