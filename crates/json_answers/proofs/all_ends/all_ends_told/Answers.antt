use Rattle.command_line.specs.Requests.{settings}
use Rattle.json_answers.proofs.Explored.{fails_passed, given_fails, memory_fails}
use Rattle.json_answers.proofs.all_ends.all_ends_told.Goals as goal

pub returns-in_err-given-clause-why : goal.returns-in_err-given-clause-why
returns-in_err-given-clause-why g c =
    let s = settings c.args.question.settings in let held = g.F.FileSource.held c.args.files.now in
    let text = c.args.question.text.now in
    fails_passed s held text c.from_residual.result _ c.from_residual.ensures.1
    (given_fails s held text _ c.in_err-given.ensures.why)

pub returns-in_default-clause-why : goal.returns-in_default-clause-why
returns-in_default-clause-why g c =
    memory_fails (settings c.args.question.settings) (g.F.FileSource.held c.args.files.now) c.args.question.text.now

pub returns-in_default-search_ends-clause-why : goal.returns-in_default-search_ends-clause-why
returns-in_default-search_ends-clause-why g c =
    memory_fails (settings c.args.question.settings) (g.F.FileSource.held c.args.files.now) c.args.question.text.now

pub returns-clause-why : goal.returns-clause-why
returns-clause-why g c =
    memory_fails (settings c.args.question.settings) (g.F.FileSource.held c.args.files.now) c.args.question.text.now
