use Rattle.std.proofs.Common.{◌∙◌, refl, subst, sym}
use Rattle.task_run.specs.OwnRun.{EndFinish, EnterFinish, Step, last_action}
use Rattle.event_worlds.specs.Courses.{IsDoing}
use Rattle.event_worlds.proofs.NextKinds.{fresh_acts, fresh_ends}
use Rattle.event_worlds.proofs.doing.TaskProgress.next_kind.Goals as goal

pub returns-in-Acts : goal.returns-in-Acts
returns-in-Acts c = λ d m.
    let s = c.in-Starts.start in
    fresh_acts c.args.job c.requires d s (subst (IsDoing c.args.job d) c.in-Starts.is m) c.in-Acts.kind
    (sym c.in-Acts.is ∙ c.first_in.ensures)

pub returns-in-Goes : goal.returns-in-Goes
returns-in-Goes c = λ d m.
    let s = c.in-Starts.start in
    fresh_ends c.args.job c.requires d s (subst (IsDoing c.args.job d) c.in-Starts.is m) _
    (sym c.in-Goes.is ∙ c.first_in.ensures)

pub returns-in-Runs : goal.returns-in-Runs
returns-in-Runs c = λ d m. c.kind_of_run.ensures c.args.job d c.requires (subst (IsDoing c.args.job d) c.in-Runs.is m)

pub returns-in-Steps : goal.returns-in-Steps
returns-in-Steps c = λ d m.
    let h = subst (IsDoing c.args.job d) c.in-Steps.is m in record { action = Step; next = h.0; of = refl }

pub returns-in-Spawns : goal.returns-in-Spawns
returns-in-Spawns c = λ d m.
    let h = subst (IsDoing c.args.job d) c.in-Spawns.is m in record { action = _; next = h.0; of = (_, refl) }

pub returns-in-Opens : goal.returns-in-Opens
returns-in-Opens c = λ d m.
    let h = subst (IsDoing c.args.job d) c.in-Opens.is m in record { action = EnterFinish; next = h.0; of = refl }

pub returns-in-AtFinish : goal.returns-in-AtFinish
returns-in-AtFinish c = λ d m.
    let h = subst (IsDoing c.args.job d) c.in-AtFinish.is m in record { action = EndFinish; next = h.0; of = refl }

pub returns-in-AtEnd : goal.returns-in-AtEnd
returns-in-AtEnd c = λ d m.
    let h = subst (IsDoing c.args.job d) c.in-AtEnd.is m in record { action = last_action d.start.path; next = h.0; of = refl }
