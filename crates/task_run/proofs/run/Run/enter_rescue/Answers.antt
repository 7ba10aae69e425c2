use Rattle.std.proofs.Common.{◌≡◌, List, ◌∷◌, map, refl, ap, ◌∙◌, subst}
use Rattle.std.proofs.lemmas.Result.{on_ok_weaker}
use Rattle.types.specs.Run.{Fault}
use Rattle.types.specs.Translation.{codes, fault}
use Rattle.types.specs.declared.fault.Fault.{Fault as rFault}
use Rattle.task_run.specs.Frames.{AtEnd, Frame, OnFault, Rest}
use Rattle.task_run.specs.OwnRun.{Own, own_rules}
use Rattle.task_run.specs.Standings.{IsAt, state_of, with_own}
use Rattle.task_run.specs.declared.frame.TaskFrame.TheVariants.{OnFault as rOnFault}
use Rattle.task_run.proofs.RunSteps.{stacked-pushed}
use Rattle.task_run.proofs.run.Run.enter_rescue.Goals as goal

pub returns : goal.returns
returns c =
    let m = c.args.self.now in let new = c.enter.new.self in
    let before = c.in_ok-before.before in
    let x = c.args.faults in let body = codes c.args.body.now in let handler = codes c.args.handler.now in
    let copied : map fault before.items ≡ map fault m.thread.faults.items
    = c.in_ok-before.ensures ∙ ap (λ (fs : List rFault). map fault fs) c.deref.ensures.value in
    on_ok_weaker c.enter.result
    (λ acts label needs close. record {
      plan = (acts label needs close).plan;
      nest = (acts label needs close).nest;
      stands = λ fs own shows.
          let st = with_own own (state_of m.thread) in
          let behind : List Fault → List (Frame Own) = λ faults. OnFault faults x.number handler ∷ fs in
          subst (λ (faults : List Fault). IsAt new (record {
            frames = Rest body ∷ AtEnd st ∷ behind faults;
            state = (own_rules needs m.thread.nest close).enter label st;
          })) copied
          ((acts label needs close).stands (behind (map fault before.items)) own (record {
            frames = stacked-pushed m.frames.items c.push.new.self.items (rOnFault before x c.args.handler)
                (OnFault (map fault before.items) x.number handler) fs c.in_ok-push.ensures.items refl shows.frames;
            owned = shows.owned;
            pending = shows.pending;
            few = shows.few;
          }));
    })
    c.enter.ensures
