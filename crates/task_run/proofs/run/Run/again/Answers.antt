use Rattle.std.proofs.Common.{subst}
use Rattle.std.specs.Bool.{OnTrue}
use Rattle.types.specs.Code.{While}
use Rattle.types.specs.Translation.{truth, codes}
use Rattle.statement_steps.specs.Standing.{TakesStep}
use Rattle.statement_steps.specs.declared.thread.Thread.{Thread}
use Rattle.task_run.specs.RunTurns.{Acts}
use Rattle.task_run.specs.declared.memory.TaskMemory.{TaskMemory}
use Rattle.task_run.specs.declared.turn.Done.TheVariants.{Gone}
use Rattle.task_run.proofs.RunSteps.{did_While, stepped}
use Rattle.task_run.proofs.Leading.{acts_taken}
use Rattle.task_run.proofs.run.Run.again.Goals as goal

pub returns-in_ok-take-clause-did : goal.returns-in_ok-take-clause-did
returns-in_ok-take-clause-did c =
    let m = c.args.self.now in let t = c.takes_step.new.self in
    let step : TakesStep m.thread t
    = subst (λ b. OnTrue b (TakesStep m.thread t)) c.if-takes_step.true c.takes_step.ensures.taken in
    let guard = truth c.args.guard.now in let body = codes c.args.body.now in
    let acts = subst (λ (t : Thread TaskMemory). Acts c.args.label (While guard body) (record m { thread = t }) c.take.new.self)
    step.same
    (acts_taken (record m { thread = t }) c.turn_loop.new.self c.take.new.self c.args.label (While guard body) c.in_ok-next.next tt
    c.in_ok-next.ensures c.in_ok-take.ensures.frames c.in_ok-take.ensures.rest) in
    λ needs.
    stepped needs m t.steps step.on step.less c.args.label (While guard body) Gone c.take.new.self (λ fs. fs)
    (did_While needs c.args.label (record m { thread = record m.thread { steps = t.steps } }) c.take.new.self guard body acts)
