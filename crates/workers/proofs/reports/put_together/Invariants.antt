use Rattle.std.proofs.Common.{◌≡◌, ◌+◌, All, None, vec_len}
use Rattle.std.specs.Vec.Iter.{into_iter_items, into_iter_len}
use Rattle.workers.specs.WorkerStates.{IsSilent, TellTogether, Tells}
use Rattle.workers.proofs.reports.put_together.Given as goal

-- the reports so far are told together, and those that are left are of the run; if nothing was told so far,
-- and nothing is left, all reports are silent
abbrev pub invariant-loop-report : goal.invariant-loop-report
invariant-loop-report g l =
    (goal.iterator-loop-report g).can_next l.report-iterator × (goal.iterator-loop-report g).is_finite l.report-iterator
    × All (Tells g.J.Running.job l.tickets l.fn.job l.settings.tasks) (into_iter_items l.report-iterator)
    × TellTogether g.J.Running.job l.tickets l.fn.job l.settings.tasks l.together.outcome l.together.error l.together.seats.items
    × (vec_len l.together.seats + into_iter_len l.report-iterator ≡ vec_len l.fn.reports)
    × (l.together.outcome ≡ None → l.together.error ≡ None → All IsSilent (into_iter_items l.report-iterator)
    → All IsSilent l.fn.reports.items)
