use Rattle.std.proofs.Common.{map, refl, string_bytes}
use Rattle.shared_lemmas.proofs.Results.{err_passed}
use Rattle.test_and_bench.specs.Trials.{IsUntested, judged, without_memory}
use Rattle.test_and_bench.proofs.testing.tests_told.Goals as goal

pub returns-in_err-tested-clause-why : goal.returns-in_err-tested-clause-why
returns-in_err-tested-clause-why g c =
    let testing = c.args.testing.now in
    err_passed c.from_residual.result _
    (IsUntested (g.F.FolderSource.named c.args.files.now) (g.F.FileSource.held c.args.files.now)
    (map string_bytes c.args.names.now) testing.writes (g.F.FileSource.held c.results.new.files))
    c.from_residual.ensures.1 c.in_err-tested.ensures.why

pub returns-in-Ok-clause-object : goal.returns-in-Ok-clause-object
returns-in-Ok-clause-object g c = record {
  judged = map judged c.in_ok-tested.tested.items;
  results = c.in_ok-tested.ensures.results;
  told_is = rw c.deref.ensures.value at c.in-Ok.ensures.text;
  status_is = rw c.deref-in-Ok.ensures.value at c.status_of.ensures;
}

pub returns-clause-why : goal.returns-clause-why
returns-clause-why g c = without_memory refl c.in_ok-tested.ensures.keeps
