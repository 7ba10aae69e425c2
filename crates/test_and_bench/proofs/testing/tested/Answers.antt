use Rattle.std.proofs.Common.{List, map, ap, arith, subst, sym, ◌∙◌}
use Rattle.std.proofs.lemmas.Result.{IfOk-at_ok}
use Rattle.command_line.specs.Requests.{settings}
use Rattle.test_and_bench.specs.Trials.{Judged, judged}
use Rattle.test_and_bench.proofs.Tested.{HaveTested, kept, none_tested, one_more}
use Rattle.test_and_bench.proofs.testing.tested.Goals as goal

pub loop-program-init : goal.loop-program-init
loop-program-init g c =
    let held = g.F.FileSource.held c.args.files.now in
    let testing = c.args.testing.now in let under = settings testing.settings in
    subst (λ (js : List Judged). HaveTested testing.writes under held c.args.programs.now held 0 js)
    (sym (ap (map judged) c.new-found.ensures.items)) (none_tested testing.writes under held c.args.programs.now)

pub loop-program-preserved : goal.loop-program-preserved
loop-program-preserved g c =
    let testing = c.args.testing.now in
    one_more testing.writes (settings testing.settings) (g.F.FileSource.held c.args.files.now) c.args.programs.now
    (g.F.FileSource.held c.loop-program.files) _ c.loop-program.program-index c.program-item.result _ _ _ _
    (omega arith) c.program-item.is c.loop-program.invariant c.in_ok-one.ensures.judged
    (IfOk-at_ok _ c.in_ok-or_no_memory.ensures.value c.add.ensures)

pub returns-in_err-one-clause-keeps : goal.returns-in_err-one-clause-keeps
returns-in_err-one-clause-keeps g c is =
    let testing = c.args.testing.now in
    c.in_err-one.ensures.keeps is
    ∙ kept (settings testing.settings) (g.F.FileSource.held c.args.files.now) testing.writes _ _ _ c.loop-program.invariant is

pub returns-in_err-or_no_memory-clause-keeps : goal.returns-in_err-or_no_memory-clause-keeps
returns-in_err-or_no_memory-clause-keeps g c is =
    let testing = c.args.testing.now in
    c.in_ok-one.ensures.keeps is
    ∙ kept (settings testing.settings) (g.F.FileSource.held c.args.files.now) testing.writes _ _ _ c.loop-program.invariant is

pub returns-clause-keeps : goal.returns-clause-keeps
returns-clause-keeps g c is =
    let testing = c.args.testing.now in
    kept (settings testing.settings) (g.F.FileSource.held c.args.files.now) testing.writes _ _ _ c.loop-program.invariant is
