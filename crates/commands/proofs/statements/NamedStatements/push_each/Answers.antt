use Rattle.std.proofs.Common.{arith, refl}
use Rattle.commands.proofs.Named.{one_more_line}
use Rattle.commands.proofs.statements.NamedStatements.push_each.Goals as goal

pub loop-number-preserved : goal.loop-number-preserved
loop-number-preserved c =
    one_more_line c.args.self.now c.args.lines.now c.loop-number.number _ _ _ _ _ (omega arith) refl
    c.in_ok-push_line.ensures c.loop-number.invariant
