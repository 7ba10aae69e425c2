use Rattle.std.proofs.Common.{sym, subst}
use Rattle.std.proofs.lemmas.Result.{IfOk-weaker}
use Rattle.std.specs.Bool.{OnTrue}
use Rattle.types.specs.Translation.{code}
use Rattle.statement_steps.specs.Standing.{TakesStep}
use Rattle.statement_steps.specs.declared.thread.Thread.{Thread}
use Rattle.task_run.specs.RunTurns.{CanAct, DidAct, DidNext, below_top}
use Rattle.task_run.specs.declared.memory.TaskMemory.{TaskMemory}
use Rattle.task_run.proofs.RunSteps.{can_on, stepped}
use Rattle.task_run.proofs.run.Run.first.Goals as goal

pub act-requires-clause-can : goal.act-requires-clause-can
act-requires-clause-can g c =
    let m = c.args.self.now in let t = c.takes_step.new.self in
    let needs = g.N.Needed.needs c.args.needed.now in let IsAsync = g.N.Needed.IsAsync c.args.needed.now in
    let x = c.args.stmt.now in
    let step : TakesStep m.thread t
    = subst (λ b. OnTrue b (TakesStep m.thread t)) c.if-takes_step.true c.takes_step.ensures.taken in
    subst (λ (t : Thread TaskMemory). CanAct needs IsAsync x.label (code x.kind) (record m { thread = t })) (sym step.same)
    (can_on needs IsAsync m t.steps x.label (code x.kind) c.requires.can)

pub returns-then-takes_step-clause-did : goal.returns-then-takes_step-clause-did
returns-then-takes_step-clause-did g c =
    let m = c.args.self.now in let t = c.takes_step.new.self in
    let needs = g.N.Needed.needs c.args.needed.now in
    let x = c.args.stmt.now in let l = x.label in let k = code x.kind in
    let step : TakesStep m.thread t
    = subst (λ b. OnTrue b (TakesStep m.thread t)) c.if-takes_step.true c.takes_step.ensures.taken in
    IfOk-weaker c.act.result
    (λ d. DidAct needs l k (record m { thread = t }) d c.act.new.self)
    (λ d. DidNext needs below_top l k m d c.act.new.self)
    (λ d did.
    stepped needs m t.steps step.on step.less l k d c.act.new.self below_top
    (subst (λ (t : Thread TaskMemory). DidAct needs l k (record m { thread = t }) d c.act.new.self) step.same did))
    c.act.ensures.did
