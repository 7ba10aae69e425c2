use Rattle.std.proofs.Common.{◌∙◌, [], ◌∷◌, ◌++◌, ap, subst, sym}
use Rattle.weighted_task.specs.Tasks.{GoesBy}
use Rattle.weighted_task.specs.declared.task.Body.{Body}
use Rattle.weighted_task.proofs.Ending.{goes_on}
use Rattle.weighted_task.proofs.finish.Waiting.go_on.Goals as goal

pub returns-clause-behind : goal.returns-clause-behind
returns-clause-behind c =
    let value = c.in_ok-new.ensures.ok in
    let run = c.in_ok-run.ensures in
    let stake = c.in-Some.field-0 in
    record {
      paused = c.in-Finish.paused;
      run = c.in_ok-run.run';
      was = c.in-Finish.is;
      is = ap (λ (b : Body). b.run) value;
      stands = run.stands;
      plan = run.plan;
      nest = run.nest;
      job = ap (λ (b : Body). b.job) value;
      opened = ap (λ (b : Body). b.opened) value;
      scopes =
          c.in-Some.ensures.items
          ∙ ap (λ (b : Body). b.outer.items ++ record { scope = b.scope; share = stake.share } ∷ []) (sym value);
    }

pub returns-clause-task : goal.returns-clause-task
returns-clause-task c =
    let value = c.in_ok-new.ensures.ok in
    let run = c.in_ok-run.ensures in
    record {
      run = c.in_ok-run.run';
      has = ap (λ (b : Body). b.run) value;
      goes =
          subst (λ (b : Body). GoesBy b.job b.outer.items b.opened c.in_ok-run.run') (sym value)
          (goes_on c.args.self c.args.settled c.in-Finish.paused c.in-Finish.is c.requires.comes c.in_ok-run.run' run.plan run.nest
          run.stands c.pop.new.self.items c.in-Some.field-0 c.in-Some.ensures.items);
    }
