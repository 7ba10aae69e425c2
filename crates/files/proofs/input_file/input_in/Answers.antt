use Rattle.std.proofs.Common.{List, ℕ, Ok, Some, ◌∙◌, subst, sym}
use Rattle.std.proofs.lemmas.Result.{IfErr-weaker, IfOk-weaker}
use Rattle.std.specs.Str.{IsUtf8}
use Rattle.shared_lemmas.proofs.Results.{err_passed}
use Rattle.types.specs.Typed.{code_of}
use Rattle.command_line.specs.Requests.{FromFile}
use Rattle.files.specs.Held.{HasText, IsGiven, TellsNoInput}
use Rattle.files.proofs.Inputs.{mistaken, no_text_no_input, said, unread_no_input}
use Rattle.files.proofs.input_file.input_in.Goals as goal

pub returns-in_err-bytes-clause-why : goal.returns-in_err-bytes-clause-why
returns-in_err-bytes-clause-why g c =
    let held = g.F.FileSource.held c.args.files.now in
    let arrays = (code_of c.args.typed.now).arrays in
    err_passed c.from_residual.result _ (TellsNoInput (Some (FromFile c.args.name.now)) held arrays)
    c.from_residual.ensures.1 (unread_no_input c.args.name.now held arrays _ c.in_err-bytes.ensures.why)

pub returns-in-Ok-clause-says : goal.returns-in-Ok-clause-says
returns-in-Ok-clause-says g c =
    let held = g.F.FileSource.held c.args.files.now in
    let arrays = (code_of c.args.typed.now).arrays in
    let is = c.in-Ok.ensures.cases in
    let has_text : HasText held c.args.name.now c.in-Ok.text.now = record {
      given = subst (λ (bs : List ℕ). IsGiven (held c.args.name.now) (Ok bs)) (sym (is.0 ∙ c.deref.ensures.value))
          c.in_ok-bytes.ensures.given;
      is_text = subst IsUtf8 (sym is.0) is.1;
    } in
    IfOk-weaker c.read.result _ _ (λ i says. said held (FromFile c.args.name.now) c.in-Ok.text.now arrays _ has_text says)
    c.read.ensures.says

pub returns-in-Ok-clause-why : goal.returns-in-Ok-clause-why
returns-in-Ok-clause-why g c =
    let held = g.F.FileSource.held c.args.files.now in
    let arrays = (code_of c.args.typed.now).arrays in
    let is = c.in-Ok.ensures.cases in
    let has_text : HasText held c.args.name.now c.in-Ok.text.now = record {
      given = subst (λ (bs : List ℕ). IsGiven (held c.args.name.now) (Ok bs)) (sym (is.0 ∙ c.deref.ensures.value))
          c.in_ok-bytes.ensures.given;
      is_text = subst IsUtf8 (sym is.0) is.1;
    } in
    IfErr-weaker c.read.result _ _ (λ f mistake. mistaken held (FromFile c.args.name.now) c.in-Ok.text.now arrays f has_text mistake)
    c.read.ensures.why

pub returns-clause-why : goal.returns-clause-why
returns-clause-why g c =
    let held = g.F.FileSource.held c.args.files.now in
    no_text_no_input c.args.name.now held _ c.not_utf8.result c.not_utf8.ensures
    (record {
      bytes = c.deref.result.now;
      given = subst (λ (bs : List ℕ). IsGiven (held c.args.name.now) (Ok bs)) (sym c.deref.ensures.value) c.in_ok-bytes.ensures.given;
      no_text = c.in-Err.ensures.cases.0;
    })
