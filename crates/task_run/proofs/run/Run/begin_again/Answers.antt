use Rattle.std.proofs.Common.{ap, ◌∙◌, sym, refl, List, [], ◌∷◌, ◌++◌, map, arith, Vec, Global}
use Rattle.std.specs.Prelude.{ℤ}
use Rattle.types.specs.Run.{Fault, On, State}
use Rattle.types.specs.Translation.{environment, fault}
use Rattle.types.specs.declared.fault.Fault.{Fault as rFault}
use Rattle.task_run.specs.declared.frame.TaskFrame.{TaskFrame}
use Rattle.task_run.specs.declared.frame.TaskFrame.TheVariants.{Rest}
use Rattle.task_run.specs.OwnRun.{Own, at_first}
use Rattle.task_run.specs.Translation.{contents_of, listed, owned_by}
use Rattle.task_run.proofs.run.Run.begin_again.Goals as goal

pub returns-clause-begun : goal.returns-clause-begun
returns-clause-begun c =
    let s = c.args.start in
    let st : List (List ℤ) → List Fault → State Own = λ lines faults. record {
      flow = On;
      environment = environment s.environment;
      store = contents_of s.holdings;
      lines = lines;
      faults = faults;
      steps = c.args.plan.budget.steps;
      path = s.path.turns.items;
      spawned = 0;
      extra = at_first (owned_by s.holdings);
    } in
    let top = Rest s.body in
    record {
      own = at_first (owned_by s.holdings);
      shows = record {
        frames = ([], top, c.in_ok-push.ensures.items ∙ ap (λ (gs : List TaskFrame). gs ++ top ∷ []) (c.in_ok-reserve.ensures.items ∙ c.clear.ensures.items), refl, refl);
        owned = refl;
        pending = sym (ap (map listed) c.clear-2.ensures.items);
        few = omega arith;
      };
      is = ap (λ (ls : List (Vec ℤ Global)). st (map (λ v. v.items) ls) (map fault c.clear-4.new.self.items)) c.clear-3.ensures.items
          ∙ ap (λ (fs : List rFault). st [] (map fault fs)) c.clear-4.ensures.items;
    }
