use Rattle.std.proofs.Common.{◌∙◌, ap, map, subst, sym}
use Rattle.sections.specs.Place.{Place}
use Rattle.task_run.specs.Settling.{settle}
use Rattle.task_run.specs.Translation.{task_result}
use Rattle.task_run.specs.declared.result.TaskResult.{TaskResult}
use Rattle.gather.specs.GivesBack.{GiveBack, all_owned}
use Rattle.finish_scope.proofs.Settled.{comes, why}
use Rattle.finish_scope.proofs.settling.settle.Goals as goal

pub returns-in-Ok-clause-comes : goal.returns-in-Ok-clause-comes
returns-in-Ok-clause-comes c =
    let p = c.args.owner.value in
    let rs = c.args.results.items in
    let w = c.open-waiting.ensures in
    comes p rs c.requires.ends c.requires.results c.open-waiting.result.0 c.in-Ok.settled w.job w.owner w.outer w.opened
    (c.in-Ok.ensures.settled ∙ ap (λ (m : TaskResult). settle (task_result m) (map task_result rs)) w.made)
    (λ gives (q : Place).
    c.in-Ok.ensures.owned (subst (λ (m : TaskResult). GiveBack (task_result m) (map task_result rs)) (sym w.made) gives) q
    ∙ ap (λ (m : TaskResult). all_owned (task_result m) q) w.made)

pub returns-clause-why : goal.returns-clause-why
returns-clause-why c =
    why c.args.owner.value c.args.results.items c.open-waiting.result.1 c.open-waiting.ensures.made
    c.in-Err.error c.in-Err.ensures.own_case c.unsettled.result c.unsettled.ensures
