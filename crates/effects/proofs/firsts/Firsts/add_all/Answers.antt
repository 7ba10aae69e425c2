use Rattle.std.proofs.Common.{arith, refl}
use Rattle.effects.specs.Translation.{access}
use Rattle.effects.proofs.FirstLabels.{firsts_of_more}
use Rattle.effects.proofs.firsts.Firsts.add_all.Goals as goal

pub loop-other-preserved : goal.loop-other-preserved
loop-other-preserved c =
    firsts_of_more access c.args.others.now c.loop-other.other-index _ _ _ _ _ (omega arith) refl c.loop-other.invariant
    c.in_ok-add.ensures
