-- All numbers of a list of events.
use Rattle.std.specs.Prelude.{◌≡◌, List, count_by, map}
use Rattle.events.specs.declared.event.Event.{Event}
use Rattle.trace_numbers.specs.Chains.{span_of}
use Rattle.trace_numbers.specs.Counts.{deepest, is_replenishing, is_steal, most_alive, steps_in, tasks_in}
use Rattle.trace_numbers.specs.Faults.{faults_of}
use Rattle.trace_numbers.specs.Hands.{steps_by_worker}
use Rattle.trace_numbers.specs.Tables.{gathered}
use Rattle.trace_numbers.specs.declared.summary.TraceSummary.{TraceSummary}

pub record IsSummary (es : List Event) (s : TraceSummary) : Type 0 where
  pub tasks : s.tasks ≡ tasks_in es
  pub steps : s.steps ≡ steps_in es
  pub span : s.span ≡ span_of es
  pub steals : s.steals ≡ count_by is_steal es
  pub replenishings : s.replenishings ≡ count_by is_replenishing es
  pub deepest_nest : s.deepest_nest ≡ deepest es
  pub most_tasks : s.most_tasks ≡ most_alive es
  pub by_worker : s.by_worker.items ≡ steps_by_worker es
  pub faults : map gathered s.faults.items ≡ faults_of es
