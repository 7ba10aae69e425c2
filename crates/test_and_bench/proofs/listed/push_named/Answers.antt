use Rattle.std.proofs.lemmas.Result.{IfErr-weaker}
use Rattle.shared_lemmas.proofs.Results.{ok_then}
use Rattle.test_and_bench.specs.Listing.{TellsUnlistedName, TellsUnlistedProgram, a_folder, a_program, no_folder, no_program}
use Rattle.test_and_bench.proofs.Endings.{ending_found}
use Rattle.test_and_bench.proofs.listed.push_named.Goals as goal

pub returns-in-Some-clause-added : goal.returns-in-Some-clause-added
returns-in-Some-clause-added g c =
    let base = c.in-Some.base.now in
    let whole = ending_found c.args.name.now base c.in-Some.ensures.cases in
    ok_then c.push_program.result c.push_program.ensures.added (λ adds. record {
      ps = adds.ps;
      are = a_program base whole adds.are;
      added = adds.added;
    })

pub returns-in-Some-clause-why : goal.returns-in-Some-clause-why
returns-in-Some-clause-why g c =
    let named = g.F.FolderSource.named c.args.files.now in let name = c.args.name.now in
    let base = c.in-Some.base.now in
    let whole = ending_found name base c.in-Some.ensures.cases in
    IfErr-weaker c.push_program.result (TellsUnlistedProgram named base) (TellsUnlistedName named name)
    (λ f why. no_program base whole why) c.push_program.ensures.why

pub returns-in-None-clause-added : goal.returns-in-None-clause-added
returns-in-None-clause-added g c =
    ok_then c.push_folder.result c.push_folder.ensures.added (λ adds. record {
      ps = adds.ps;
      are = a_folder c.in-None.ensures.cases adds.are;
      added = adds.added;
    })

pub returns-in-None-clause-why : goal.returns-in-None-clause-why
returns-in-None-clause-why g c =
    let named = g.F.FolderSource.named c.args.files.now in let name = c.args.name.now in
    IfErr-weaker c.push_folder.result _ (TellsUnlistedName named name)
    (λ f why. no_folder c.in-None.ensures.cases why) c.push_folder.ensures.why
