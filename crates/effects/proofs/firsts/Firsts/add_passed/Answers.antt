use Rattle.effects.specs.AccessSets.{HasAccess}
use Rattle.effects.specs.Firsts.{kept_in}
use Rattle.effects.proofs.FirstLabels.{none_passed, one_passed, on_ok_from}
use Rattle.effects.proofs.firsts.Firsts.add_passed.Goals as goal

pub returns-in-None : goal.returns-in-None
returns-in-None c =
    none_passed (HasAccess c.args.accesses.now) c.args.parameter.number c.args.section.number c.args.write (kept_in c.args.self.now)
    c.in-None.ensures

pub returns-in-Some : goal.returns-in-Some
returns-in-Some c =
    on_ok_from _ _ c.add.result
    (one_passed (HasAccess c.args.accesses.now) c.args.parameter.number c.args.section.number c.in-Some.label c.args.write
    (kept_in c.args.self.now) (kept_in c.add.new.self) c.in-Some.ensures)
    c.add.ensures
