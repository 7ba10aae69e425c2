use Rattle.std.proofs.Common.{ap, ◌∙◌, refl, sym}
use Rattle.std.proofs.lemmas.Result.{IfOk-weaker}
use Rattle.types.specs.Translation.{input as lists_of}
use Rattle.types.specs.Typed.{code_of}
use Rattle.command_line.specs.Requests.{settings}
use Rattle.printing.specs.OutcomeText.{status_of}
use Rattle.json_answers.specs.Costs.{cost_json}
use Rattle.json_answers.specs.Objects.{ObjectOfCost, numbers}
use Rattle.json_answers.specs.Pieces.{line}
use Rattle.json_answers.proofs.Written.{object_told}
use Rattle.json_answers.proofs.running.cost_told.Goals as goal

pub returns-then-status-eq0-clause-object : goal.returns-then-status-eq0-clause-object
returns-then-status-eq0-clause-object g c =
    let s = settings c.args.question.settings in
    let held = g.F.FileSource.held c.args.files.now in
    let text = c.args.question.text.now in
    object_told (ObjectOfCost s held text) c.told_or_no_memory.result c.cost_object.result
    c.told_or_no_memory.ensures.line c.told_or_no_memory.ensures.status
    (IfOk-weaker c.cost_object.result _ _ (λ x is. record {
      code = code_of c.in_ok-given.given.typed;
      input = lists_of c.in_ok-given.given.input;
      given = c.in_ok-given.ensures.given;
      tells = numbers (ap status_of (sym c.in-Ok.ensures.outcome) ∙ sym c.status.ensures ∙ c.if-status-eq0.true)
          (is ∙ ap (λ n. line (cost_json n)) c.in-Ok.ensures.cost) refl;
    }) c.cost_object.ensures.text)
