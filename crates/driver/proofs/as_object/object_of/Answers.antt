use Rattle.command_line.specs.Requests.{settings}
use Rattle.driver.proofs.Objects.{fails_so, object_so}
use Rattle.driver.proofs.as_object.object_of.Goals as goal

pub returns-in-Check-clause-object : goal.returns-in-Check-clause-object
returns-in-Check-clause-object g c =
    let s = settings c.args.question.settings in let held = g.F.FileSource.held c.args.files.now in
    object_so _ _ c.in-Check.is s held c.args.question.text.now c.check_told.result (c.check_told.ensures.object s held)

pub returns-in-Pairs-clause-object : goal.returns-in-Pairs-clause-object
returns-in-Pairs-clause-object g c =
    let s = settings c.args.question.settings in let held = g.F.FileSource.held c.args.files.now in
    object_so _ _ c.in-Pairs.is s held c.args.question.text.now c.pairs_told.result (c.pairs_told.ensures.object s held)

pub returns-in-Labels-clause-object : goal.returns-in-Labels-clause-object
returns-in-Labels-clause-object g c =
    let s = settings c.args.question.settings in let held = g.F.FileSource.held c.args.files.now in
    object_so _ _ c.in-Labels.is s held c.args.question.text.now c.list_told.result (c.list_told.ensures.object s held)

pub returns-in-CheckFormat-clause-object : goal.returns-in-CheckFormat-clause-object
returns-in-CheckFormat-clause-object g c =
    let s = settings c.args.question.settings in let held = g.F.FileSource.held c.args.files.now in
    object_so _ _ c.in-CheckFormat.is s held c.args.question.text.now c.format_told.result (c.format_told.ensures.object s held)

pub returns-in-Check-clause-why : goal.returns-in-Check-clause-why
returns-in-Check-clause-why g c =
    let s = settings c.args.question.settings in let held = g.F.FileSource.held c.args.files.now in
    fails_so _ _ c.in-Check.is s held c.args.question.text.now c.check_told.result (c.check_told.ensures.why s held)

pub returns-in-Pairs-clause-why : goal.returns-in-Pairs-clause-why
returns-in-Pairs-clause-why g c =
    let s = settings c.args.question.settings in let held = g.F.FileSource.held c.args.files.now in
    fails_so _ _ c.in-Pairs.is s held c.args.question.text.now c.pairs_told.result (c.pairs_told.ensures.why s held)

pub returns-in-Labels-clause-why : goal.returns-in-Labels-clause-why
returns-in-Labels-clause-why g c =
    let s = settings c.args.question.settings in let held = g.F.FileSource.held c.args.files.now in
    fails_so _ _ c.in-Labels.is s held c.args.question.text.now c.list_told.result (c.list_told.ensures.why s held)

pub returns-in-CheckFormat-clause-why : goal.returns-in-CheckFormat-clause-why
returns-in-CheckFormat-clause-why g c =
    let s = settings c.args.question.settings in let held = g.F.FileSource.held c.args.files.now in
    fails_so _ _ c.in-CheckFormat.is s held c.args.question.text.now c.format_told.result (c.format_told.ensures.why s held)

pub returns-in-Summary-clause-object : goal.returns-in-Summary-clause-object
returns-in-Summary-clause-object g c =
    let s = settings c.args.question.settings in let held = g.F.FileSource.held c.args.files.now in
    object_so _ _ c.in-Summary.is s held c.args.question.text.now c.summary_told.result c.summary_told.ensures.object
