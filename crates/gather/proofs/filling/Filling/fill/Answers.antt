use Rattle.std.proofs.Common.{refl}
use Rattle.gather.specs.PartRefusal.{RefusesHole}
use Rattle.gather.specs.Stages.{waiting_for}
use Rattle.gather.proofs.Pasting.{filled-is, passed_on, refuses_hole}
use Rattle.gather.proofs.filling.Filling.fill.Goals as goal

pub returns-in_err-take_back-clause-refused : goal.returns-in_err-take_back-clause-refused
returns-in_err-take_back-clause-refused c =
    let w = waiting_for c.args.self.now c.args.hole in
    passed_on c.from_residual.result c.in_err-take_back.field-0.0 (RefusesHole w) c.from_residual.ensures
    (refuses_hole c.in_err-take_back.field-0.0 w c.args.hole.path refl c.in_err-take_back.ensures.refused)

pub returns-clause-filled : goal.returns-clause-filled
returns-clause-filled c =
    filled-is c.args.self.now c.take_back.new.self c.args.hole c.args.child c.tell.new.settled c.tell-2.new.settled
    c.in_ok-take_back.ensures.taken c.in_ok-tell.ensures.told c.in_ok-tell.ensures.holdings
    c.in_ok-tell-2.ensures.told c.in_ok-tell-2.ensures.holdings
