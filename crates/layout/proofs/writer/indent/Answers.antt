use Rattle.std.proofs.Common.{◌++◌, ◌∙◌, ap}
use Rattle.layout.proofs.GoingLemmas.{indent-more, two_spaces}
use Rattle.layout.proofs.writer.indent.Goals as goal

pub loop-level-preserved : goal.loop-level-preserved
loop-level-preserved c =
    c.in_ok-extend_from_slice.ensures.items ∙ ap (λ l. l ++ two_spaces) c.loop-level.invariant
    ∙ indent-more c.args.out.now.items c.loop-level._level
