use Rattle.std.proofs.Common.{◌≡◌, All, None}
use Rattle.workers.specs.WorkerStates.{IsSilent}
use Rattle.workers.proofs.Silence.{silent_so}
use Rattle.workers.proofs.reports.told.Goals as goal

pub returns-clause-silent : goal.returns-clause-silent
returns-clause-silent g c =
    let r = c.in_ok-together.together in
    silent_so ((r.outcome ≡ None) × (r.error ≡ None)) (All IsSilent c.args.reports.items)
    (λ none. c.in_ok-together.ensures.silent none.0 none.1) c.finish.result c.finish.ensures.silent
