use Rattle.driver.specs.More.{more_of}
use Rattle.driver.proofs.SeveralFiles.{HaveActed}
use Rattle.driver.proofs.several.do_with_each.Given as goal

abbrev pub invariant-loop-file : goal.invariant-loop-file
invariant-loop-file g l =
    HaveActed (more_of l.several.action l.several.telling (g.T.Terminal.seen l.fn.terminal)) l.several.action
    l.several.telling (g.F.FileSource.held l.fn.files) (g.O.Write.contents l.fn.out) (g.E.Write.contents l.fn.err)
    l.several.files.now l.file-index
    (g.F.FileSource.held l.files) (g.O.Write.contents l.out) (g.E.Write.contents l.err) l.worst
