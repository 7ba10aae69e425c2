use Rattle.std.proofs.lemmas.Result.{IfOk-weaker}
use Rattle.types.specs.Translation.{codes, program}
use Rattle.effects.specs.Translation.{access}
use Rattle.witness.specs.Known.{steps}
use Rattle.witness.proofs.Crossings.{into_least}
use Rattle.witness.proofs.crossing.way_into.Goals as goal

pub returns : goal.returns
returns c =
    IfOk-weaker c.led_on.result _ _
    (λ led e. into_least (program c.args.pairing.now.code.now) c.args.label c.args.pieces.now.section.number c.args.pieces.now.piece.number
    (codes c.args.body.now) c.args.pending (access c.args.aim.now.access) _ _ (steps led) c.step_into.ensures e c.in_ok-way.ensures)
    c.led_on.ensures
