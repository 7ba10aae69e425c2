use Rattle.std.proofs.Common.{◌≡◌, ◌⊎◌, ◌∙◌, ap, inr, subst}
use Rattle.std.proofs.lemmas.Result.{IfOk-weaker}
use Rattle.std.specs.Prelude.{Result, Ok, Err, IfOk}
use Rattle.types.specs.Translation.{program}
use Rattle.task_run.specs.Reached.{begun}
use Rattle.task_run.specs.Standings.{IsAt}
use Rattle.task_run.specs.Translation.{start}
use Rattle.task_run.specs.declared.job.Job.{Job}
use Rattle.event_worlds.specs.Courses.{Course, IsDoing, IsKnown, IsLooked}
use Rattle.event_worlds.specs.declared.doing.TaskProgress.{TaskProgress}
use Rattle.event_worlds.specs.declared.error.EventError.{EventError}
use Rattle.event_worlds.proofs.Turning.{begins}
use Rattle.event_worlds.proofs.doing.TaskProgress.known.Goals as goal

-- the next action, if it is known now
looked_by : (j : Job) (old : TaskProgress) (r : Result TaskProgress EventError) → IfOk r IsKnown
    → IfOk r (λ new. (c : Course) → IsDoing j c old → IsDoing j c new) → IfOk r (λ new. (new ≡ old) ⊎ IsLooked j old new)
looked_by j old (Ok new) known same = inr (record { known = known; same = same })
looked_by j old (Err e) known same = tt

pub ahead-requires-clause-task : goal.ahead-requires-clause-task
ahead-requires-clause-task c =
    let j = c.args.job in
    let t = c.requires.task in
    let run = c.in_ok-run-in-Starts.run' in
    let s = c.in-Starts.start in (
      t.0,
      begins j c.requires.job t.0 s run (subst (IsDoing j t.0) c.in-Starts.is t.1)
          (ap (λ (q : _). program q.program.now) c.in_ok-run-in-Starts.ensures.plan ∙ c.plan.ensures.program) c.in_ok-run-in-Starts.ensures.nest
          (subst (λ (n : _). IsAt run (begun n (start s))) (ap (λ (z : _). z.steps) c.plan.ensures.budget) c.in_ok-run-in-Starts.ensures.begun),
    )

pub returns-in_ok-run-in-Starts-clause-same : goal.returns-in_ok-run-in-Starts-clause-same
returns-in_ok-run-in-Starts-clause-same c =
    let j = c.args.job in
    let run = c.in_ok-run-in-Starts.run' in
    let s = c.in-Starts.start in
    looked_by j c.args.self c.ahead.result c.ahead.ensures.known
    (IfOk-weaker c.ahead.result _ _
    (λ known same d m. same d
    (begins j c.requires.job d s run (subst (IsDoing j d) c.in-Starts.is m)
    (ap (λ (q : _). program q.program.now) c.in_ok-run-in-Starts.ensures.plan ∙ c.plan.ensures.program) c.in_ok-run-in-Starts.ensures.nest
    (subst (λ (n : _). IsAt run (begun n (start s))) (ap (λ (z : _). z.steps) c.plan.ensures.budget) c.in_ok-run-in-Starts.ensures.begun)))
    c.ahead.ensures.same)
