use Rattle.std.proofs.Common.{List, Some, subst, ℕ}
use Rattle.std.proofs.lemmas.Result.{IfErr-weaker, IfOk-weaker}
use Rattle.shared_lemmas.proofs.Results.{err_passed}
use Rattle.types.specs.Translation.{input as lists_of}
use Rattle.types.specs.Typed.{code_of}
use Rattle.command_line.specs.Requests.{FromBytes}
use Rattle.files.specs.Held.{HasMistakeOf, HoldBytes, TellsNoInput, wrong_bytes}
use Rattle.files.proofs.Inputs.{bytes_mistaken, unread_no_bytes}
use Rattle.files.proofs.input_file.bytes_in.Goals as goal

pub returns-in_err-bytes-clause-why : goal.returns-in_err-bytes-clause-why
returns-in_err-bytes-clause-why g c =
    let held = g.F.FileSource.held c.args.files.now in
    let arrays = (code_of c.args.typed.now).arrays in
    let name = c.args.name.now in let file = c.args.file.now in
    err_passed c.from_residual.result _ (TellsNoInput (Some (FromBytes name file)) held arrays) c.from_residual.ensures.1
    (unread_no_bytes name file held arrays _ c.in_err-bytes.ensures.unread c.in_err-bytes.ensures.why)

pub returns-clause-says : goal.returns-clause-says
returns-clause-says g c =
    let arrays = (code_of c.args.typed.now).arrays in let name = c.args.name.now in
    IfOk-weaker c.with_bytes.result _ _ (λ i says. record {
      bytes = c.in_ok-bytes.bytes.items;
      given = c.in_ok-bytes.ensures.given;
      says = subst (λ (bs : List ℕ). HoldBytes name bs arrays (lists_of i)) c.deref.ensures.value says;
    }) c.with_bytes.ensures.says

pub returns-clause-why : goal.returns-clause-why
returns-clause-why g c =
    let held = g.F.FileSource.held c.args.files.now in
    let arrays = (code_of c.args.typed.now).arrays in let name = c.args.name.now in
    IfErr-weaker c.with_bytes.result _ _ (λ f why.
    bytes_mistaken held name c.args.file.now c.in_ok-bytes.bytes.items arrays f c.in_ok-bytes.ensures.given
    (subst (λ (bs : List ℕ). HasMistakeOf (wrong_bytes name bs arrays) f) c.deref.ensures.value why)) c.with_bytes.ensures.why
