use Rattle.std.proofs.Common.{map, refl, sym, ap, subst}
use Rattle.types.specs.Translation.{codes, fault}
use Rattle.statement_steps.specs.Standing.{flow}
use Rattle.statement_steps.specs.declared.flow.Flow.{Flow}
use Rattle.task_run.specs.Frames.{Rest, handled}
use Rattle.task_run.specs.Standings.{IsAt, state_of, with_own}
use Rattle.task_run.specs.declared.frame.TaskFrame.TheVariants.{Rest as rRest}
use Rattle.task_run.proofs.RunSteps.{shows_kept, stacked-pushed, unhandled}
use Rattle.task_run.proofs.run.Run.handle.Goals as goal

pub returns-in-On : goal.returns-in-On
returns-in-On c =
    let m = c.args.self.now in let x = c.args.faults.number in
    let before = map fault c.args.before.items in let handler = codes c.args.handler.now in
    record {
      plan = refl;
      nest = refl;
      stands = λ fs own shows.
          subst (IsAt m) (sym (unhandled m.thread.flow before x handler fs (with_own own (state_of m.thread)) c.in-On.is))
          (record { own = own; shows = shows; is = refl });
    }

pub returns-in_ok-push-in-Faulted : goal.returns-in_ok-push-in-Faulted
returns-in_ok-push-in-Faulted c =
    let m = c.args.self.now in let x = c.args.faults.number in
    let before = map fault c.args.before.items in let handler = codes c.args.handler.now in
    let t = c.catch_faults.new.self in let caught = c.in_ok-catch_faults-in-Faulted.ensures in
    let frames = c.push.new.self in let new = record m { thread = t; frames = frames } in
    record {
      plan = refl;
      nest = caught.task.nest;
      stands = λ fs own shows.
          let st = with_own own (state_of m.thread) in
          let kept = shows_kept m t fs own caught.task shows in
          subst (IsAt new) (sym (ap (λ (f : Flow). handled (flow f) before x handler fs st) c.in-Faulted.is)) (record {
            own = own;
            shows = record {
              frames = stacked-pushed m.frames.items frames.items (rRest c.args.handler) (Rest handler) fs
                  c.in_ok-push-in-Faulted.ensures.items refl shows.frames;
              owned = kept.owned;
              pending = kept.pending;
              few = kept.few;
            };
            is = ap (with_own own) caught.state;
          });
    }
