use Rattle.std.proofs.Common.{◌≡◌, ◌∙◌, ap, subst, sym}
use Rattle.serde_json.specs.View.{view}
use Rattle.task_run.specs.Jobs.{budget_of, lists_of, program_of}
use Rattle.event_worlds.specs.Replaying.{IsRefused, comes}
use Rattle.event_worlds.specs.declared.error.ReplayError.{ReplayError}
use Rattle.event_worlds.specs.declared.error.ReplayError.TheVariants.{IllegalAt as rIllegalAt, NoMemory}
use Rattle.event_worlds.specs.declared.job.WeightedJob.{WeightedJob}
use Rattle.trace_page.specs.Changes.{IsReplay}
use Rattle.trace_page.specs.Pages.{IsNoTrace, Traced, comes_of, traced}
use Rattle.trace_page.proofs.page.page.Goals as goal

pub page_with-requires : goal.page_with-requires
page_with-requires c = record {
  fits = c.requires;
  replayed = subst (λ (j : WeightedJob). IsReplay (program_of j.job) j.w0 (budget_of j.job) (lists_of j.job) c.args.run.events.now (view c.in-Ok.changes))
      c.in-Some.ensures.1 c.in-Ok.ensures.told;
}

-- an error of the replay is one of the trace
refused : (run : Traced) (j : WeightedJob) (e : ReplayError) → comes j run.events ≡ comes_of run → IsRefused j run.events e
    → IsNoTrace run e
refused run j (rIllegalAt n) same is = sym same ∙ is
refused run j NoMemory same is = tt

pub returns-in-Err-clause-refused : goal.returns-in-Err-clause-refused
returns-in-Err-clause-refused c =
    refused (traced c.args.run) c.in-Some.job c.in-Err.error
    (ap (λ (j : WeightedJob). comes j c.args.run.events.now) c.in-Some.ensures.1) c.in-Err.ensures.refused
