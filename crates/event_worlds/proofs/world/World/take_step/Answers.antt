use Rattle.std.proofs.Common.{ap, sym}
use Rattle.std.proofs.lemmas.Result.{IfErr-weaker, IfOk-weaker}
use Rattle.std.specs.Prelude.{is_some}
use Rattle.event_worlds.specs.declared.task.WorldTask.{WorldTask as rTask}
use Rattle.event_worlds.specs.declared.world.World.{World as rWorld}
use Rattle.event_worlds.proofs.InPlace.{no_step, stepped_if}
use Rattle.event_worlds.proofs.Judging.{step_in_place}
use Rattle.event_worlds.proofs.Tables.{task_there}
use Rattle.event_worlds.proofs.world.World.take_step.Goals as goal

pub take_step-requires-clause-task : goal.take_step-requires-clause-task
take_step-requires-clause-task c =
    task_there c.args.self.now.job.job c.in-Some.task.now _ _ (c.requires.shows.tasks c.args.path.now) (sym c.in-Some.ensures.value)

pub returns-in-Some-clause-stepped : goal.returns-in-Some-clause-stepped
returns-in-Some-clause-stepped c =
    let r : rWorld = c.args.self.now in
    let path = c.args.path.now in
    let k = c.in-Some.task.now in
    let put : rTask → rWorld = λ x. record r { tasks = c.get_mut.follows.lender x } in
    let holds = λ (x : rTask). (c.get_mut.follows.holds x).3 (ap is_some (sym c.in-Some.ensures.value)) in
    IfOk-weaker c.take_step.result _ _
    (λ did s. stepped_if r path k (sym c.in-Some.ensures.value) put (λ x. (holds x).0) (λ x. (holds x).1) c.take_step.new.self did s)
    c.take_step.ensures.stepped

pub returns-in-Some-clause-refused : goal.returns-in-Some-clause-refused
returns-in-Some-clause-refused c =
    let r : rWorld = c.args.self.now in
    IfErr-weaker c.take_step.result _ _
    (λ e not is. no_step r c.args.path.now c.in-Some.task.now (sym c.in-Some.ensures.value) (not is))
    c.take_step.ensures.refused

pub returns-in-Some-clause-memory : goal.returns-in-Some-clause-memory
returns-in-Some-clause-memory c =
    IfErr-weaker c.take_step.result _ _
    (λ e steps is. step_in_place c.args.self.now c.requires.job c.args.path.now c.in-Some.task.now (sym c.in-Some.ensures.value) (steps is))
    c.take_step.ensures.memory
