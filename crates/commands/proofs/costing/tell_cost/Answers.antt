use Rattle.std.proofs.Common.{ap, ◌∙◌, false, map, refl, sym, subst, string_bytes}
use Rattle.std.proofs.lemmas.Result.{IfOk-at_ok}
use Rattle.types.specs.Outcome.{outcome}
use Rattle.types.specs.Translation.{array, input as lists_of, outcome as outcome_of}
use Rattle.types.specs.Typed.{code_of}
use Rattle.command_line.specs.Requests.{settings}
use Rattle.cost.specs.Accounts.{account_of, span_by_label}
use Rattle.cost.specs.Costs.{cost_of, tally_of}
use Rattle.printing.specs.OutcomeText.{status_of}
use Rattle.commands.specs.Answers.{HasCost, account_in, command_of, not_ended, numbers}
use Rattle.commands.proofs.Answering.{cost_answers, costs_are_run, costs_test_rules, declared_of, outcome_shown, passes_not_given, shown}
use Rattle.commands.proofs.costing.tell_cost.Goals as goal

pub returns-in_err-given-clause-done : goal.returns-in_err-given-clause-done
returns-in_err-given-clause-done g c =
    let by = c.args.shares in
    passes_not_given (command_of by) (settings c.args.question.settings) (g.F.FileSource.held c.args.files.now)
    c.args.question.text.now _ (costs_test_rules by) (costs_are_run by) _ _ c.from_residual.ensures.1
    c.in_err-given.ensures.why

pub returns-then-status-eq0-clause-done : goal.returns-then-status-eq0-clause-done
returns-then-status-eq0-clause-done g c =
    let by = c.args.shares in
    let s = settings c.args.question.settings in
    let held = g.F.FileSource.held c.args.files.now in
    let text = c.args.question.text.now in
    let m = c.in_ok-cost.cost in
    let p = code_of c.in_ok-given.given.typed in
    let input = lists_of c.in_ok-given.given.input in
    let n = cost_of (tally_of p input s.budget) in
    let a = account_in by p input s.budget in
    let is = c.in_ok-cost.ensures.value in let measured = c.measure_by_label-measured.ensures in
    let rows = c.in_ok-rows.ensures.rows in
    let lines = string_bytes c.in_ok-told.told in
    let found = IfOk-at_ok _ c.in_ok-told.ensures.value (c.lines_of.ensures c.in_ok-given.ensures.spelled) in
    let costs = subst (λ x. HasCost by text x m.work.items m.span.items p lines) (IfOk-at_ok _ is measured.cost) found in
    let works = subst (λ w. HasCost by text n w m.span.items p lines)
    (IfOk-at_ok _ is measured.work ∙ ap (λ r. (account_of p r input s.budget).work) rows) costs in
    let spans = subst (λ x. HasCost by text n a.work x p lines)
    (IfOk-at_ok _ is measured.span ∙ ap (λ r. span_by_label (account_of p r input s.budget)) rows) works in
    let told = subst (λ l. HasCost by text n a.work (span_by_label a) p l) (sym c.as_str.ensures.value) spans in
    shown (command_of by) s held text _ _ c.answer.result _ 0
    (cost_answers by s held text _ 0 (record {
      code = p;
      input = input;
      given = c.in_ok-given.ensures.given;
      tells = numbers (ap status_of (sym (IfOk-at_ok _ is measured.outcome)) ∙ sym c.status.ensures ∙ c.if-status-eq0.true)
          told refl;
    }))
    c.answer.ensures.text c.answer.ensures.status c.answer.ensures.failure

pub returns-clause-done : goal.returns-clause-done
returns-clause-done g c =
    let by = c.args.shares in
    let s = settings c.args.question.settings in
    let held = g.F.FileSource.held c.args.files.now in
    let text = c.args.question.text.now in
    let p = code_of c.in_ok-given.given.typed in
    let input = lists_of c.in_ok-given.given.input in
    let arrays = declared_of _ _ c.in_ok-given.given.typed c.deref.ensures.value c.code.ensures.field in
    let same = IfOk-at_ok _ c.in_ok-cost.ensures.value c.measure_by_label-measured.ensures.outcome in
    shown (command_of by) s held text _ _ c.show.result _ _
    (cost_answers by s held text _ _ (record {
      code = p;
      input = input;
      given = c.in_ok-given.ensures.given;
      tells = not_ended (λ is. c.if-status-eq0.false (c.status.ensures ∙ ap status_of same ∙ is))
          (outcome_shown false p (outcome_of c.in_ok-cost.cost.costed.outcome) (outcome p input s.budget)
          (map array c.deref.result.now) same arrays);
    }))
    c.show.ensures.text c.show.ensures.status c.show.ensures.failure
