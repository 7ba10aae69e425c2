use Rattle.std.proofs.Common.{subst, sym}
use Rattle.files.specs.Held.{TellsNoProgram}
use Rattle.driver.proofs.opening.source_of.Goals as goal

pub returns-in-Err-clause-why : goal.returns-in-Err-clause-why
returns-in-Err-clause-why g c =
    subst (TellsNoProgram (g.F.FileSource.held c.args.files.now) c.args.request.file.now) (sym c.unread.ensures.failure)
    c.in-Err.ensures.why
