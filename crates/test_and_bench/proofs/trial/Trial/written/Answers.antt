use Rattle.std.proofs.Common.{◌∙◌, sym}
use Rattle.commands.proofs.Answering.{err_passed}
use Rattle.test_and_bench.specs.Trials.{IsUnwritten, no_output, refused, trial, unread_output}
use Rattle.test_and_bench.proofs.Trying.{no_answer}
use Rattle.test_and_bench.proofs.Written.{found_for, had_before, unwritten, written_anew}
use Rattle.test_and_bench.proofs.trial.Trial.written.Goals as goal

pub returns-in_err-begun-clause-why : goal.returns-in_err-begun-clause-why
returns-in_err-begun-clause-why g c =
    let held = g.F.FileSource.held c.args.files.now in let t = trial c.args.self.now in
    err_passed c.from_residual.result _ (IsUnwritten held t _) c.from_residual.ensures.1
    (no_output (refused c.in_err-begun.ensures.why) c.in_err-begun.ensures.keeps)

pub returns-in_err-told-clause-why : goal.returns-in_err-told-clause-why
returns-in_err-told-clause-why g c =
    let held = g.F.FileSource.held c.args.files.now in let t = trial c.args.self.now in
    err_passed c.from_residual-in_err-told.result _ (IsUnwritten held t _) c.from_residual-in_err-told.ensures.1
    (no_output (no_answer held t c.in_ok-begun.begun _ c.in_ok-begun.ensures.begun c.in_err-told.ensures.why)
    c.in_ok-begun.ensures.keeps)

pub returns-in_err-name-clause-why : goal.returns-in_err-name-clause-why
returns-in_err-name-clause-why g c =
    let held = g.F.FileSource.held c.args.files.now in let t = trial c.args.self.now in
    err_passed c.from_residual-in_err-name.result _ (IsUnwritten held t _) c.from_residual-in_err-name.ensures.1
    (unread_output c.in_err-name.ensures.why c.in_ok-begun.ensures.keeps)

pub returns-in_err-has-clause-why : goal.returns-in_err-has-clause-why
returns-in_err-has-clause-why g c =
    let held = g.F.FileSource.held c.args.files.now in let t = trial c.args.self.now in
    err_passed c.from_residual-in_err-has.result _ (IsUnwritten held t _) c.from_residual-in_err-has.ensures.1
    (unread_output c.in_err-has.ensures.why (c.in_err-has.ensures.keeps ∙ c.in_ok-begun.ensures.keeps))

pub returns-then-has-clause-written : goal.returns-then-has-clause-written
returns-then-has-clause-written g c =
    let held = g.F.FileSource.held c.args.files.now in let t = trial c.args.self.now in
    had_before held _ _ t c.in_ok-begun.begun _ _ c.in_ok-begun.ensures.begun (c.deref.ensures.value ∙ c.in_ok-told.ensures.told)
    c.in_ok-begun.ensures.keeps (c.as_str.ensures.value ∙ c.in_ok-name.ensures.name) c.in_ok-has.has c.if-has.true
    c.in_ok-has.ensures.has c.in_ok-has.ensures.keeps

pub returns-in_err-write_file-clause-why : goal.returns-in_err-write_file-clause-why
returns-in_err-write_file-clause-why g c =
    let held = g.F.FileSource.held c.args.files.now in let t = trial c.args.self.now in
    err_passed c.from_residual-in_err-write_file.result _ (IsUnwritten held t _) c.from_residual-in_err-write_file.ensures.1
    (unwritten held _ _ t c.in_ok-begun.begun _ _ c.in_ok-begun.ensures.begun (c.deref-2.ensures.value ∙ c.in_ok-told.ensures.told)
    c.in_ok-begun.ensures.keeps (c.as_str-2.ensures.value ∙ c.in_ok-name.ensures.name) _ _ c.in_ok-has.ensures.keeps
    c.in_err-write_file.ensures.why c.in_err-write_file.ensures.others)

pub returns-clause-written : goal.returns-clause-written
returns-clause-written g c =
    let held = g.F.FileSource.held c.args.files.now in let t = trial c.args.self.now in
    written_anew held _ _ t c.in_ok-begun.begun _ _ c.in_ok-begun.ensures.begun (c.deref-2.ensures.value ∙ c.in_ok-told.ensures.told)
    c.in_ok-begun.ensures.keeps (c.as_str-2.ensures.value ∙ c.in_ok-name.ensures.name) c.in_ok-has.has c.if-has.false
    (found_for held _ c.in_ok-begun.ensures.keeps _ _ _ _ c.in_ok-has.has (c.as_str.ensures.value ∙ sym c.as_str-2.ensures.value)
    (c.deref.ensures.value ∙ sym c.deref-2.ensures.value) c.in_ok-has.ensures.has)
    _ c.in_ok-has.ensures.keeps c.in_ok-write_file.ensures.written c.in_ok-write_file.ensures.others
