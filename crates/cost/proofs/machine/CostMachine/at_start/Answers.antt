use Rattle.std.proofs.Common.{arith, ap, refl, sym, subst, List, All}
use Rattle.std.proofs.lemmas.List.Elements.{All-nil}
use Rattle.std.specs.Prelude.{ℤ}
use Rattle.types.specs.Contents.{FitsArrays}
use Rattle.types.specs.Run.{State}
use Rattle.types.specs.Translation.{codes, program}
use Rattle.types.specs.Value.{Environment}
use Rattle.cost.specs.declared.frame.CostFrame.{CostFrame}
use Rattle.statement_steps.specs.Bounds.{LiesInArrays}
use Rattle.cost.specs.Machines.{IsSoundFrame}
use Rattle.statement_steps.proofs.BoundsLemmas.{main_lies}
use Rattle.cost.proofs.machine.CostMachine.at_start.Goals as goal

pub returns : goal.returns
returns c =
    let p = program c.args.plan.program.now in
    let begins = c.in_ok-thread.ensures in
    record {
      sound = record {
        thread = record {
          store = subst (λ (ls : List (List ℤ)). FitsArrays p.arrays ls) (sym begins.lists) c.requires;
          windows =
              subst (λ (e : Environment). LiesInArrays p e)
              (sym (ap (λ (st : State (Unit {0})). st.environment) begins.state)) (main_lies p);
        };
        spawned = omega (
          arith,
          ap (λ (st : State (Unit {0})). st.spawned) begins.state,
          ap (λ (st : State (Unit {0})). st.steps) begins.state,
        );
        frames =
            subst (λ (fs : List CostFrame). All (IsSoundFrame p c.args.plan.budget.steps) fs) (sym c.new-frames.ensures.items)
            (All-nil (IsSoundFrame p c.args.plan.budget.steps));
      };
      plan = refl;
      state = begins.state;
      nest = begins.nest;
      block = ap codes c.deref.ensures.value;
      frames = c.new-frames.ensures.items;
      account = c.in_ok-account.ensures;
    }
