use Rattle.std.proofs.Common.{length}
use Rattle.parallel_relation.specs.Pairs.{pairs_left}
use Rattle.printing.specs.Labels.{pair_text}
use Rattle.printing.proofs.Appending.{AppendsFirst}
use Rattle.printing.proofs.emit.emit_pairs.Given as goal

abbrev pub invariant-loop-one : goal.invariant-loop-one
invariant-loop-one g l =
    AppendsFirst pair_text (pairs_left l.fn.pairs) (length l.yielded) (g.W.Write.contents l.fn.out)
    (g.W.Write.contents l.out)
