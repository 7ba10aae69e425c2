use Rattle.std.proofs.Common.{List, arith, map, string_bytes, subst, sym}
use Rattle.commands.proofs.Answering.{err_passed}
use Rattle.test_and_bench.specs.Listing.{TellsUnlisted, listed}
use Rattle.test_and_bench.specs.declared.listed.Listed.{Listed}
use Rattle.test_and_bench.proofs.Named.{HaveListed, none_listed, not_listed, one_listed}
use Rattle.test_and_bench.proofs.listed.programs_of.Goals as goal

pub loop-name-init : goal.loop-name-init
loop-name-init g c =
    let named = g.F.FolderSource.named c.args.files.now in let held = g.F.FileSource.held c.args.files.now in
    subst (λ (ps : List Listed). HaveListed named held c.args.names.now named held 0 (map listed ps)) (sym c.new-programs.ensures.items)
    (none_listed named held c.args.names.now)

pub loop-name-preserved : goal.loop-name-preserved
loop-name-preserved g c =
    one_listed (g.F.FolderSource.named c.args.files.now) (g.F.FileSource.held c.args.files.now) c.args.names.now
    (g.F.FolderSource.named c.loop-name.files) _ (g.F.FileSource.held c.loop-name.files) _ c.loop-name.name-index
    c.name-item.result _ _ _ _ (omega arith) c.name-item.is c.as_str.ensures.value c.loop-name.invariant
    c.in_ok-push_named.ensures.added c.in_ok-push_named.ensures.keeps c.in_ok-push_named.ensures.stays

pub returns-in_err-push_named-clause-why : goal.returns-in_err-push_named-clause-why
returns-in_err-push_named-clause-why g c =
    let named = g.F.FolderSource.named c.args.files.now in let held = g.F.FileSource.held c.args.files.now in
    let names = c.args.names.now in
    err_passed c.from_residual.result _ (TellsUnlisted named (map string_bytes names)) c.from_residual.ensures.1
    (not_listed named held names (g.F.FolderSource.named c.loop-name.files) (g.F.FileSource.held c.loop-name.files)
    c.loop-name.name-index c.name-item.result _ _ _ _ (omega arith) c.name-item.is c.as_str.ensures.value
    c.loop-name.invariant c.in_err-push_named.ensures.why)
