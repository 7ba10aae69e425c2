use Rattle.std.proofs.Common.{arith}
use Rattle.effects.proofs.LabelSetLemmas.{filled}
use Rattle.effects.proofs.label_set.LabelSet.reserve.Goals as goal

pub returns-clause-same : goal.returns-clause-same
returns-clause-same c = filled _ _ _ _ (omega (arith, c.len.ensures, c.if-count-len.false)) c.in_ok-resize.ensures.items
