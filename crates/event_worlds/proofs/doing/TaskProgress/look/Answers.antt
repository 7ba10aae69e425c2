use Rattle.std.proofs.Common.{◌∙◌, ap, subst}
use Rattle.types.specs.Translation.{program}
use Rattle.task_run.specs.Reached.{begun}
use Rattle.task_run.specs.Standings.{IsAt}
use Rattle.task_run.specs.Translation.{start}
use Rattle.event_worlds.specs.Courses.{IsDoing}
use Rattle.event_worlds.proofs.Turning.{begins, fresh_copy, run_copy}
use Rattle.event_worlds.proofs.doing.TaskProgress.look.Goals as goal

pub ahead-requires-clause-task : goal.ahead-requires-clause-task
ahead-requires-clause-task c =
    let j = c.args.job in
    let t = c.requires.task in
    let copy = c.in_ok-copy-in-Starts.copy in
    let run = c.in_ok-run-in-Starts.run' in (
      t.0,
      begins j c.requires.job t.0 copy run
          (fresh_copy j c.requires.job t.0 c.in-Starts.start copy c.in_ok-copy-in-Starts.ensures.start (subst (IsDoing j t.0) c.in-Starts.is t.1))
          (ap (λ (q : _). program q.program.now) c.in_ok-run-in-Starts.ensures.plan ∙ c.plan.ensures.program) c.in_ok-run-in-Starts.ensures.nest
          (subst (λ (n : _). IsAt run (begun n (start copy))) (ap (λ (z : _). z.steps) c.plan.ensures.budget) c.in_ok-run-in-Starts.ensures.begun),
    )

pub returns-in_ok-known-in-Starts-clause-looked : goal.returns-in_ok-known-in-Starts-clause-looked
returns-in_ok-known-in-Starts-clause-looked c =
    let j = c.args.job in
    let copy = c.in_ok-copy-in-Starts.copy in
    let run = c.in_ok-run-in-Starts.run' in
    record {
      known = c.in_ok-known-in-Starts.ensures.known;
      same = λ d m. c.in_ok-known-in-Starts.ensures.same d
          (begins j c.requires.job d copy run
          (fresh_copy j c.requires.job d c.in-Starts.start copy c.in_ok-copy-in-Starts.ensures.start (subst (IsDoing j d) c.in-Starts.is m))
          (ap (λ (q : _). program q.program.now) c.in_ok-run-in-Starts.ensures.plan ∙ c.plan.ensures.program) c.in_ok-run-in-Starts.ensures.nest
          (subst (λ (n : _). IsAt run (begun n (start copy))) (ap (λ (z : _). z.steps) c.plan.ensures.budget) c.in_ok-run-in-Starts.ensures.begun));
    }

pub ahead-requires-in-Runs-clause-task : goal.ahead-requires-in-Runs-clause-task
ahead-requires-in-Runs-clause-task c =
    let j = c.args.job in
    let t = c.requires.task in
    (t.0, run_copy j c.requires.job t.0 c.in-Runs.run' c.in_ok-copy-in-Runs.copy c.in_ok-copy-in-Runs.ensures (subst (IsDoing j t.0) c.in-Runs.is t.1))

pub returns-in_ok-known-in-Runs-clause-looked : goal.returns-in_ok-known-in-Runs-clause-looked
returns-in_ok-known-in-Runs-clause-looked c =
    let j = c.args.job in
    record {
      known = c.in_ok-known-in-Runs.ensures.known;
      same = λ d m. c.in_ok-known-in-Runs.ensures.same d
          (run_copy j c.requires.job d c.in-Runs.run' c.in_ok-copy-in-Runs.copy c.in_ok-copy-in-Runs.ensures (subst (IsDoing j d) c.in-Runs.is m));
    }
