use Rattle.std.proofs.Common.{ℕ, List, Ok, Option, Vec, Global, subst, sym, codes}
use Rattle.std.specs.Prelude.{option_map}
use Rattle.std.proofs.lemmas.Result.{IfOk-weaker, IfErr-weaker}
use Rattle.files.specs.Held.{Held, IsGiven}
use Rattle.commands.proofs.Answering.{err_passed}
use Rattle.test_and_bench.specs.Trials.{IsUncompared, file, refused, trial, unrun, without_output}
use Rattle.test_and_bench.proofs.Trying.{compared, no_answer, no_text_kept}
use Rattle.test_and_bench.proofs.trial.Trial.difference.Goals as goal

pub returns-in_err-begun-clause-why : goal.returns-in_err-begun-clause-why
returns-in_err-begun-clause-why g c =
    let held = g.F.FileSource.held c.args.files.now in
    let t = trial c.args.self.now in
    err_passed c.from_residual.result _ (IsUncompared held t) c.from_residual.ensures.1 (unrun (refused c.in_err-begun.ensures.why))

pub returns-in_err-wanted-clause-why : goal.returns-in_err-wanted-clause-why
returns-in_err-wanted-clause-why g c =
    let held = g.F.FileSource.held c.args.files.now in
    let t = trial c.args.self.now in
    err_passed c.from_residual-in_err-wanted.result _ (IsUncompared held t) c.from_residual-in_err-wanted.ensures.1
    (without_output (no_text_kept _ held (file t (codes ".out")) _ c.in_ok-begun.ensures.keeps c.in_err-wanted.ensures.why))

pub returns-clause-compared : goal.returns-clause-compared
returns-clause-compared g c =
    let held = g.F.FileSource.held c.args.files.now in
    let t = trial c.args.self.now in
    let given = subst (λ (bs : List ℕ). IsGiven (held (file t (codes ".out"))) (Ok bs)) (sym c.deref.ensures.value)
    (subst (λ (h : Held). IsGiven (h (file t (codes ".out"))) (Ok c.in_ok-wanted.wanted.items)) c.in_ok-begun.ensures.keeps
    c.in_ok-wanted.ensures.given) in
    let bytes : Option (Vec ℕ Global) → Option (List ℕ) = option_map (λ v. v.items) in
    IfOk-weaker c.difference.result _ _ (λ how is.
    compared held t c.in_ok-begun.begun c.deref.result.now (bytes how) c.in_ok-begun.ensures.begun given is) c.difference.ensures.how

pub returns-clause-why : goal.returns-clause-why
returns-clause-why g c =
    let held = g.F.FileSource.held c.args.files.now in
    let t = trial c.args.self.now in
    IfErr-weaker c.difference.result _ (IsUncompared held t) (λ f told. unrun (no_answer held t c.in_ok-begun.begun f c.in_ok-begun.ensures.begun told))
    c.difference.ensures.why
