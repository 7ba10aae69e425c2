use Rattle.std.proofs.Common.{map, refl, string_bytes, ◌∙◌}
use Rattle.command_line.specs.Requests.{settings}
use Rattle.test_and_bench.specs.Trials.{judged}
use Rattle.test_and_bench.proofs.Told.{test_told, test_without_memory, test_without_results}
use Rattle.test_and_bench.proofs.testing.test_names.Goals as goal

pub returns-in_err-tested : goal.returns-in_err-tested
returns-in_err-tested g c =
    let testing = c.args.testing.now in
    test_without_results (g.F.FolderSource.named c.args.files.now) (g.F.FileSource.held c.args.files.now)
    (map string_bytes c.args.names.now) testing.writes (settings testing.settings) _ _ _ _
    c.from_residual.ensures.1 c.in_err-tested.ensures.why

pub returns-in-Ok : goal.returns-in-Ok
returns-in-Ok g c =
    let testing = c.args.testing.now in
    test_told (g.F.FolderSource.named c.args.files.now) (g.F.FileSource.held c.args.files.now)
    (map string_bytes c.args.names.now) testing.writes (settings testing.settings) _ _ _ c.write.result _ _
    (record {
      judged = map judged c.in_ok-tested.tested.items;
      results = c.in_ok-tested.ensures.results;
      told_is = c.as_str.ensures.value ∙ rw c.deref.ensures.value at c.in-Ok.ensures;
      status_is = rw c.deref-in-Ok.ensures.value at c.status_of.ensures;
    })
    c.write.ensures.text c.write.ensures.status c.write.ensures.failure c.in_ok-tested.ensures.keeps

pub returns : goal.returns
returns g c =
    let testing = c.args.testing.now in
    test_without_memory (g.F.FolderSource.named c.args.files.now) (g.F.FileSource.held c.args.files.now)
    (map string_bytes c.args.names.now) testing.writes (settings testing.settings) _ _ _ _ refl refl
    c.in_ok-tested.ensures.keeps
