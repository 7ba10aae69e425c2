use Rattle.std.proofs.Common.{◌∙◌, ap}
use Rattle.event_worlds.specs.Courses.{behind}
use Rattle.event_worlds.specs.declared.task.WorldTask.{WorldTask}
use Rattle.event_worlds.proofs.task.WorldTask.step.Goals as goal

pub returns-clause-stepped : goal.returns-clause-stepped
returns-clause-stepped c =
    let old : WorldTask = c.args.self.now in
    record {
      run = c.in-Steps.field-0;
      was = c.in-Steps.is;
      now = c.goes_on.ensures.now ∙ ap (λ d. record old { doing = behind d }) c.in-Steps.is;
    }
