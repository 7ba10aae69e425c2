use Rattle.std.proofs.Common.{rules, arith, ◌≡◌, ◌+◌, [], All, subst, sym}
use Rattle.std.proofs.lemmas.List.{nil_from_length}
use Rattle.std.proofs.lemmas.List.Elements.{All-cons, All-nil, All-rest}
use Rattle.std.specs.Vec.Iter.{into_iter_items, into_iter_len}
use Rattle.workers.specs.WorkerStates.{IsSilent, Tells}
use Rattle.workers.proofs.reports.put_together.Goals as goal

pub loop-report-preserved : goal.loop-report-preserved
loop-report-preserved g c =
    let was = c.loop-report.invariant in let step = c.in-Some.ensures.steps in
    let long : into_iter_len c.loop-report.report-iterator ≡ into_iter_len c.next.new.self + 1 = search rules in (
      tt,
      tt,
      All-rest (Tells g.J.Running.job c.args.tickets.now c.args.job c.args.settings.tasks) c.in-Some.report _ _ step.0 was.2,
      c.in_ok-together.ensures.told,
      omega (arith, was.4, long, c.in_ok-together.ensures.seats),
      (λ nothing none rest.
          let is = c.in_ok-together.ensures.silent nothing none in
          was.5 is.1 is.2 (subst (All IsSilent) (sym step.0) (All-cons IsSilent c.in-Some.report _ is.0 rest))),
    )

-- no report is left
pub returns-clause-silent : goal.returns-clause-silent
returns-clause-silent g c nothing none =
    let left : into_iter_items c.loop-report.report-iterator ≡ [] = nil_from_length _ (search rules) in
    c.loop-report.invariant.5 nothing none (subst (All IsSilent) (sym left) (All-nil IsSilent))
