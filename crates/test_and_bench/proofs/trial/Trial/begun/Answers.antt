use Rattle.std.proofs.Common.{ℕ, List, ◌≤◌, length, Ok, ◌∙◌, subst, sym, codes}
use Rattle.std.proofs.lemmas.Result.{IfOk-weaker, IfErr-weaker}
use Rattle.std.specs.Str.{IsUtf8}
use Rattle.types.specs.Translation.{input as lists_of}
use Rattle.types.specs.Typed.{code_of}
use Rattle.files.specs.Held.{Held, HasText, IsGiven}
use Rattle.files.proofs.Programs.{no_program_text}
use Rattle.commands.specs.Answers.{HasInput, TellsNotBegun}
use Rattle.commands.proofs.Answering.{err_passed}
use Rattle.test_and_bench.specs.Trials.{IsBegun, IsRefused, file, not_begun, settings_of, trial, without_text}
use Rattle.test_and_bench.proofs.Trying.{memory_refused, no_program_at}
use Rattle.test_and_bench.proofs.trial.Trial.begun.Goals as goal

pub returns-in_err-name-clause-why : goal.returns-in_err-name-clause-why
returns-in_err-name-clause-why g c =
    let held = g.F.FileSource.held c.args.files.now in
    let t = trial c.args.self.now in
    err_passed c.from_residual.result _ (IsRefused held t) c.from_residual.ensures.1
    (memory_refused held t _ c.in_err-name.ensures.why)

pub returns-in_err-bytes-clause-why : goal.returns-in_err-bytes-clause-why
returns-in_err-bytes-clause-why g c =
    let held = g.F.FileSource.held c.args.files.now in
    let t = trial c.args.self.now in
    err_passed c.from_residual-in_err-bytes.result _ (IsRefused held t) c.from_residual-in_err-bytes.ensures.1
    (without_text (no_program_at held _ _ _ (c.as_str.ensures.value ∙ c.in_ok-name.ensures.name) c.in_err-bytes.ensures.why))

pub returns-in-Ok-clause-begun : goal.returns-in-Ok-clause-begun
returns-in-Ok-clause-begun g c =
    let held = g.F.FileSource.held c.args.files.now in
    let t = trial c.args.self.now in
    let is = c.in-Ok.ensures.cases in
    let has_text : HasText held (file t (codes ".afx")) c.in-Ok.text.now = record {
      given = subst (λ (n : List ℕ). IsGiven (held n) (Ok c.in-Ok.text.now)) (c.as_str.ensures.value ∙ c.in_ok-name.ensures.name)
          (subst (λ (bs : List ℕ). IsGiven (held c.as_str.result.now) (Ok bs)) (sym (is.0 ∙ c.deref.ensures.value))
          c.in_ok-bytes.ensures.given);
      is_text = subst IsUtf8 (sym is.0) is.1;
    } in
    IfOk-weaker c.begun_with.result _ (IsBegun held t) (λ b given. record {
      text = c.in-Ok.text.now;
      has_text = has_text;
      given = subst (λ (h : Held). HasInput (settings_of t) h c.in-Ok.text.now (code_of b.accepted.typed) (lists_of b.input))
          c.in_ok-bytes.ensures.keeps given;
    }) c.begun_with.ensures.given

pub returns-in-Ok-clause-why : goal.returns-in-Ok-clause-why
returns-in-Ok-clause-why g c =
    let held = g.F.FileSource.held c.args.files.now in
    let t = trial c.args.self.now in
    let is = c.in-Ok.ensures.cases in
    let has_text : HasText held (file t (codes ".afx")) c.in-Ok.text.now = record {
      given = subst (λ (n : List ℕ). IsGiven (held n) (Ok c.in-Ok.text.now)) (c.as_str.ensures.value ∙ c.in_ok-name.ensures.name)
          (subst (λ (bs : List ℕ). IsGiven (held c.as_str.result.now) (Ok bs)) (sym (is.0 ∙ c.deref.ensures.value))
          c.in_ok-bytes.ensures.given);
      is_text = subst IsUtf8 (sym is.0) is.1;
    } in
    IfErr-weaker c.begun_with.result _ (IsRefused held t) (λ f told. not_begun c.in-Ok.text.now has_text
    (subst (λ (h : Held). TellsNotBegun (settings_of t) h c.in-Ok.text.now f) c.in_ok-bytes.ensures.keeps told))
    c.begun_with.ensures.why

pub returns-clause-why : goal.returns-clause-why
returns-clause-why g c =
    let held = g.F.FileSource.held c.args.files.now in
    let same = c.as_str.ensures.value ∙ c.in_ok-name.ensures.name in
    without_text (no_program_at held _ _ c.not_utf8.result (c.as_str-in-Err.ensures.value ∙ c.in_ok-name.ensures.name)
    (no_program_text held c.as_str-in-Err.result.now c.not_utf8.result c.not_utf8.ensures
    (record {
      bytes = c.deref.result.now;
      given = subst (λ (n : List ℕ). IsGiven (held n) (Ok c.deref.result.now)) (same ∙ sym (c.as_str-in-Err.ensures.value ∙ c.in_ok-name.ensures.name))
          (subst (λ (bs : List ℕ). IsGiven (held c.as_str.result.now) (Ok bs)) (sym c.deref.ensures.value) c.in_ok-bytes.ensures.given);
      short = subst (λ (bs : List ℕ). length bs ≤ 1048576) (sym c.deref.ensures.value) c.in_ok-bytes.ensures.short;
      no_text = c.in-Err.ensures.cases.0;
    })))
