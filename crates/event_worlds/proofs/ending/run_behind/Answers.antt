use Rattle.std.proofs.Common.{◌∙◌, ap, map, sym, subst}
use Rattle.std.proofs.lemmas.Result.{IfOk-weaker}
use Rattle.task_run.specs.Results.{TaskResult}
use Rattle.task_run.specs.Settling.{settle}
use Rattle.task_run.specs.Translation.{task_result}
use Rattle.gather.specs.GivesBack.{GiveBack, all_owned}
use Rattle.event_worlds.proofs.ending.run_behind.Goals as goal

pub settled_on-requires : goal.settled_on-requires
settled_on-requires c =
    subst (λ y. GiveBack y (map task_result c.in_ok-results.results.items)) (sym c.in_ok-made.ensures)
    (subst (λ ys. GiveBack (task_result c.args.made.now) ys) (sym c.in_ok-results.ensures) c.requires)

pub returns-clause-goes : goal.returns-clause-goes
returns-clause-goes c =
    let rs = map task_result c.in_ok-results.results.items in
    IfOk-weaker c.settled_on.result _ _
    (λ run goes. record {
      settled = goes.settled;
      comes = goes.comes ∙ ap (λ y. settle y rs) c.in_ok-made.ensures ∙ ap (settle (task_result c.args.made.now)) c.in_ok-results.ensures;
      owned = λ p. goes.owned p ∙ ap (λ (r : TaskResult). all_owned r p) c.in_ok-made.ensures;
      stands = λ fs before st waits back. goes.stands fs before st (c.in_ok-clone.ensures.waits fs before st waits) back;
      plan = goes.plan ∙ c.in_ok-clone.ensures.plan;
      nest = goes.nest ∙ c.in_ok-clone.ensures.nest;
    }) c.settled_on.ensures.goes
