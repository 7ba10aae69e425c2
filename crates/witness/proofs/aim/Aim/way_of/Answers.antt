use Rattle.std.proofs.Common.{length}
use Rattle.std.proofs.lemmas.Result.{IfOk-weaker}
use Rattle.types.specs.Translation.{code, program}
use Rattle.effects.specs.Translation.{access}
use Rattle.witness.specs.Known.{AreShortest, steps}
use Rattle.witness.specs.Ways.{WayOf}
use Rattle.witness.proofs.Leasts.{least_covered}
use Rattle.witness.proofs.aim.Aim.way_of.Goals as goal

pub returns : goal.returns
returns c =
    let p = program c.args.code.now in
    let x = access c.args.self.now.access in
    let s = c.args.statement.now in
    IfOk-weaker c.way_of.result _ _
    (λ found h. least_covered length (AreShortest p x c.args.self.now.known) (λ way. WayOf p c.args.pending s.label (code s.kind) way x) (steps found)
    c.requires.aim.shortest h) c.way_of.ensures
