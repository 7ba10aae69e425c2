use Rattle.std.proofs.Common.{◌∙◌, ap, Some}
use Rattle.shared_lemmas.proofs.Results.{err_passed}
use Rattle.task_run.specs.Jobs.{outcome_of}
use Rattle.weighted_task.specs.Tasks.{IsResultOf}
use Rattle.workers.specs.Causes.{Happens, IsOfResults, trouble_by}
use Rattle.workers.proofs.Passes.{each_permuted, happens_unsettled, unsettled_of}
use Rattle.workers.proofs.passing.pass.Goals as goal

pub settle-requires-clause-results : goal.settle-requires-clause-results
settle-requires-clause-results c =
    each_permuted (IsResultOf c.args.owner.value.job) c.args.results.items
    c.in_order-results.result.items c.in_order-results.ensures c.requires.results

pub returns-in_ok-outcome-in-Main : goal.returns-in_ok-outcome-in-Main
returns-in_ok-outcome-in-Main c = record {
  next = c.in_ok-outcome-in-Main.ensures.told ∙ ap outcome_of c.in_ok-waiting.ensures.job;
  cause = tt;
  unsettled = tt;
}

pub returns-in_err-waiting-clause-cause : goal.returns-in_err-waiting-clause-cause
returns-in_err-waiting-clause-cause c =
    let p = c.args.owner.value in
    let rs = c.in_order-results.result.items in
    err_passed c.from_residual.result (trouble_by _) (Happens (Some p.job)) c.from_residual.ensures.1
    (happens_unsettled p rs c.requires.ends
    (each_permuted (IsResultOf p.job) c.args.results.items rs c.in_order-results.ensures c.requires.results)
    _ c.in_err-waiting.ensures.why)

pub returns-in_err-waiting-clause-unsettled : goal.returns-in_err-waiting-clause-unsettled
returns-in_err-waiting-clause-unsettled c =
    let p = c.args.owner.value in
    let rs = c.in_order-results.result.items in
    err_passed c.from_residual.result (trouble_by _) (IsOfResults p c.args.results.items)
    c.from_residual.ensures.1
    (unsettled_of p c.args.results.items rs _ c.in_err-waiting.ensures.why c.in_order-results.ensures)
