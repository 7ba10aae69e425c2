use Rattle.std.proofs.Common.{arith, ◌∙◌}
use Rattle.driver.proofs.SeveralFiles.{none_acted, one_more}
use Rattle.driver.proofs.several.do_with_each.Goals as goal

pub loop-file-init : goal.loop-file-init
loop-file-init g c =
    none_acted _ c.args.several.action c.args.several.telling (g.F.FileSource.held c.args.files.now)
    (g.O.Write.contents c.args.out.now) (g.E.Write.contents c.args.err.now) c.args.several.files.now

pub loop-file-preserved : goal.loop-file-preserved
loop-file-preserved g c =
    one_more _ c.args.several.action c.args.several.telling (g.F.FileSource.held c.args.files.now)
    (g.O.Write.contents c.args.out.now) (g.E.Write.contents c.args.err.now) c.args.several.files.now
    c.loop-file.file-index c.file-item.result _ _ _ _ _ _ _ _ _ _ _ _ _ _ (omega arith) c.file-item.is
    c.as_str.ensures.value (c.ordered_for-ordered.ensures.more ∙ c.more_on-more.ensures)
    c.ordered_for-ordered.ensures.answers c.ordered_for-ordered.ensures.asks c.loop-file.invariant
    c.do_with_one-status.ensures c.larger-worst.ensures
