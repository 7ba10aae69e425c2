use Rattle.std.proofs.Common.{map, ◌∙◌}
use Rattle.std.proofs.lemmas.Result.{IfErr-weaker, IfOk-weaker}
use Rattle.shared_lemmas.proofs.Results.{err_passed}
use Rattle.std.specs.String.{string_bytes}
use Rattle.command_line.specs.Requests.{settings}
use Rattle.test_and_bench.specs.Listing.{listed}
use Rattle.test_and_bench.specs.Trials.{IsUntested, unlisted, without_memory}
use Rattle.test_and_bench.proofs.Tested.{tested_after}
use Rattle.test_and_bench.proofs.testing.results.Goals as goal

pub returns-in_err-programs-clause-why : goal.returns-in_err-programs-clause-why
returns-in_err-programs-clause-why g c =
    let testing = c.args.testing.now in
    err_passed c.from_residual.result _
    (IsUntested (g.F.FolderSource.named c.args.files.now) (g.F.FileSource.held c.args.files.now)
    (map string_bytes c.args.names.now) testing.writes (g.F.FileSource.held c.programs_of.new.files))
    c.from_residual.ensures.1 (unlisted c.in_err-programs.ensures.why c.in_err-programs.ensures.keeps)

pub returns-clause-results : goal.returns-clause-results
returns-clause-results g c =
    let testing = c.args.testing.now in
    IfOk-weaker c.tested.result _ _ (λ v tested. record {
      programs = map listed c.in_ok-programs.programs.items;
      all = c.in_ok-programs.ensures.all;
      tested = tested_after testing.writes (settings testing.settings) _ (g.F.FileSource.held c.args.files.now) _ _ _
          c.in_ok-programs.ensures.keeps (rw c.deref.ensures.value at tested);
    }) c.tested.ensures.tested

pub returns-clause-why : goal.returns-clause-why
returns-clause-why g c =
    IfErr-weaker c.tested.result _ _
    (λ f memory. without_memory memory (λ is. c.tested.ensures.keeps is ∙ c.in_ok-programs.ensures.keeps)) c.tested.ensures.why

pub returns-clause-keeps : goal.returns-clause-keeps
returns-clause-keeps g c is = c.tested.ensures.keeps is ∙ c.in_ok-programs.ensures.keeps
