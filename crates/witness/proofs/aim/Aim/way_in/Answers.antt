use Rattle.std.proofs.Common.{length}
use Rattle.std.proofs.lemmas.Result.{IfOk-weaker}
use Rattle.types.specs.Translation.{codes, program}
use Rattle.effects.specs.Translation.{access}
use Rattle.witness.specs.Known.{AreShortest, steps}
use Rattle.witness.specs.Ways.{Way}
use Rattle.witness.proofs.Leasts.{least_covered}
use Rattle.witness.proofs.aim.Aim.way_in.Goals as goal

pub returns : goal.returns
returns c =
    let p = program c.args.code.now in
    let x = access c.args.self.now.access in
    IfOk-weaker c.way_in.result _ _
    (λ found h. least_covered length (AreShortest p x c.args.self.now.known) (λ way. Way p c.args.pending (codes c.args.list.now) way x) (steps found)
    c.requires.aim.shortest h) c.way_in.ensures
