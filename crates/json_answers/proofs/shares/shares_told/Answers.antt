use Rattle.std.proofs.Common.{ap, ◌∙◌, false, map, refl, sym, subst, string_bytes}
use Rattle.std.proofs.lemmas.Result.{IfOk-weaker}
use Rattle.types.specs.Outcome.{outcome}
use Rattle.types.specs.Translation.{array, input as lists_of}
use Rattle.types.specs.Typed.{code_of}
use Rattle.command_line.specs.Requests.{settings}
use Rattle.cost.specs.Accounts.{account_of, span_by_label}
use Rattle.cost.specs.Costs.{cost_of, tally_of}
use Rattle.printing.specs.OutcomeText.{status_of}
use Rattle.commands.specs.Answers.{account_in}
use Rattle.commands.specs.declared.costing.Shares.TheVariants.{ByLabel}
use Rattle.commands.proofs.Answering.{declared_of}
use Rattle.json_answers.specs.Objects.{ObjectOfShares, TellsOutcome, TellsShares, shared, unshared}
use Rattle.json_answers.proofs.Written.{object_told}
use Rattle.json_answers.proofs.shares.shares_told.Goals as goal

pub returns-then-status-eq0-clause-object : goal.returns-then-status-eq0-clause-object
returns-then-status-eq0-clause-object g c =
    let s = settings c.args.question.settings in
    let held = g.F.FileSource.held c.args.files.now in
    let text = c.args.question.text.now in
    let m = c.in-Ok.cost in
    let p = code_of c.in_ok-given.given.typed in
    let input = lists_of c.in_ok-given.given.input in
    let n = cost_of (tally_of p input s.budget) in
    let a = account_in ByLabel p input s.budget in
    let rows = c.in_ok-rows.ensures.rows in
    object_told (ObjectOfShares s held text) c.told_or_no_memory.result c.line_of_shares.result
    c.told_or_no_memory.ensures.line c.told_or_no_memory.ensures.status
    (IfOk-weaker c.line_of_shares.result _ _ (λ x shares. record {
      code = p;
      input = input;
      given = c.in_ok-given.ensures.given;
      tells = shared (ap status_of (sym c.in-Ok.ensures.outcome) ∙ sym c.status.ensures ∙ c.if-status-eq0.true)
          (subst (λ l. TellsShares text n a.work l (string_bytes x))
          (c.in-Ok.ensures.span ∙ ap (λ r. span_by_label (account_of p r input s.budget)) rows)
          (subst (λ w. TellsShares text n w m.span.items (string_bytes x))
          (c.in-Ok.ensures.work ∙ ap (λ r. (account_of p r input s.budget).work) rows)
          (subst (λ k. TellsShares text k m.work.items m.span.items (string_bytes x)) c.in-Ok.ensures.cost shares)))
          refl;
    }) (c.line_of_shares.ensures c.in_ok-given.ensures.spelled))

pub returns-clause-object : goal.returns-clause-object
returns-clause-object g c =
    let s = settings c.args.question.settings in
    let text = c.args.question.text.now in
    let p = code_of c.in_ok-given.given.typed in
    let input = lists_of c.in_ok-given.given.input in
    let arrays = declared_of _ _ c.in_ok-given.given.typed c.deref.ensures.value c.code.ensures.field in
    let same = c.in-Ok.ensures.outcome in
    IfOk-weaker c.outcome_told.result _ _ (λ t tells. record {
      code = p;
      input = input;
      given = c.in_ok-given.ensures.given;
      tells = unshared (λ is. c.if-status-eq0.false (c.status.ensures ∙ ap status_of same ∙ is))
          (subst (λ declared. TellsOutcome declared (outcome p input s.budget) text (string_bytes t.line) t.status) arrays
          (subst (λ o. TellsOutcome (map array c.deref.result.now) o text (string_bytes t.line) t.status) same tells));
    }) c.outcome_told.ensures.object
