use Rattle.std.proofs.Common.{List, ℕ, ◌∙◌, subst, codes, string_bytes}
use Rattle.std.proofs.lemmas.Result.{IfErr-weaker, IfOk-weaker}
use Rattle.commands.proofs.Answering.{err_passed}
use Rattle.files.specs.Held.{HasText, TellsNoText}
use Rattle.test_and_bench.specs.Trials.{file, trial}
use Rattle.test_and_bench.proofs.Trying.{memory_without_text}
use Rattle.test_and_bench.proofs.trial.Trial.options_text.Goals as goal

pub returns-in_err-name-clause-why : goal.returns-in_err-name-clause-why
returns-in_err-name-clause-why g c =
    let held = g.F.FileSource.held c.args.files.now in let name = file (trial c.args.self.now) (codes ".args") in
    err_passed c.from_residual.result _ (TellsNoText held name) c.from_residual.ensures.1
    (memory_without_text held name _ c.in_err-name.ensures.why)

pub returns-clause-text : goal.returns-clause-text
returns-clause-text g c =
    let held = g.F.FileSource.held c.args.files.now in
    let same = c.as_str.ensures.value ∙ c.in_ok-name.ensures.name in
    IfOk-weaker c.text_in.result _ _ (λ text has. subst (λ (n : List ℕ). HasText held n (string_bytes text)) same has)
    c.text_in.ensures.text

pub returns-clause-why : goal.returns-clause-why
returns-clause-why g c =
    let held = g.F.FileSource.held c.args.files.now in
    let same = c.as_str.ensures.value ∙ c.in_ok-name.ensures.name in
    IfErr-weaker c.text_in.result _ _ (λ f why. subst (λ (n : List ℕ). TellsNoText held n f) same why) c.text_in.ensures.why
