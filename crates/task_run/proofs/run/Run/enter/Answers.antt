use Rattle.std.proofs.Common.{ap, ◌∙◌, sym, refl, List, [], ◌∷◌, map, Vec, Global}
use Rattle.std.specs.Prelude.{ℤ}
use Rattle.types.specs.Run.{Fault, State}
use Rattle.types.specs.Translation.{codes, fault}
use Rattle.types.specs.declared.fault.Fault.{Fault as rFault}
use Rattle.task_run.specs.Frames.{Rest, AtEnd}
use Rattle.task_run.specs.OwnRun.{EnterFinish, Own, notes}
use Rattle.task_run.specs.Standings.{state_of, with_own}
use Rattle.task_run.specs.Translation.{listed}
use Rattle.task_run.specs.declared.frame.TaskFrame.TheVariants.{Rest as rRest, EndFinish as rEndFinish}
use Rattle.task_run.specs.declared.frame.Outer.{Outer}
use Rattle.task_run.specs.declared.result.Listed.{Listed as rListed}
use Rattle.task_run.proofs.RunSteps.{stacked-pushed}
use Rattle.task_run.proofs.run.Run.enter.Goals as goal

pub returns : goal.returns
returns c =
    let m = c.args.self.now in
    let outer : Outer = record {
      lines = c.replace.result;
      faults = c.replace-2.result;
      pending = c.replace-3.result;
    } in
    λ label needs close. record {
      plan = refl;
      nest = refl;
      stands = λ fs x shows.
          let st = with_own x (state_of m.thread) in
          let own = notes EnterFinish (record x { pending = [] }) in
          let told : List (List ℤ) → List Fault → State Own = λ lines faults. record st {
            lines = lines;
            faults = faults;
            extra = own;
          } in
          record {
            own = own;
            shows = record {
              frames =
                  stacked-pushed c.push.new.self.items c.push-2.new.self.items (rRest c.args.body) (Rest (codes c.args.body.now))
                  (AtEnd st ∷ fs) c.in_ok-push-2.ensures.items refl
                  (stacked-pushed m.frames.items c.push.new.self.items (rEndFinish outer) (AtEnd st) fs c.in_ok-push.ensures.items (
                    st,
                    refl,
                    record {
                      lines = ap (λ (v : Vec (Vec ℤ Global) Global). map (λ l. l.items) v.items) (sym c.replace.ensures.value);
                      faults = ap (λ (v : Vec rFault Global). map fault v.items) (sym c.replace-2.ensures.value);
                      pending = shows.pending
                          ∙ ap (λ (v : Vec rListed Global). map listed v.items) (sym c.replace-3.ensures.value);
                    },
                  )
                  shows.frames);
              owned = shows.owned;
              pending = sym (ap (λ (v : Vec rListed Global). map listed v.items) c.replace-3.ensures.after
                  ∙ ap (map listed) c.new-3.ensures.items);
              few = shows.few;
            };
            is = ap (λ (v : Vec (Vec ℤ Global) Global). told (map (λ l. l.items) v.items) (map fault c.replace-2.new.dest.items))
                c.replace.ensures.after
                ∙ ap (λ (ls : List (Vec ℤ Global)). told (map (λ l. l.items) ls) (map fault c.replace-2.new.dest.items)) c.new.ensures.items
                ∙ ap (λ (v : Vec rFault Global). told [] (map fault v.items)) c.replace-2.ensures.after
                ∙ ap (λ (fs : List rFault). told [] (map fault fs)) c.new-2.ensures.items;
          };
    }
