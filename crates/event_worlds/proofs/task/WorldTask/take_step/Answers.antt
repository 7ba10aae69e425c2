use Rattle.std.proofs.Common.{◌∙◌, refl, subst, sym}
use Rattle.shared_lemmas.proofs.Results.{if_err_then}
use Rattle.event_worlds.specs.NextKinds.{IsNextKind}
use Rattle.event_worlds.specs.declared.next.NextKind.TheVariants.{Step as ToStep}
use Rattle.event_worlds.specs.Courses.{IsDoing, IsLooked, course_of}
use Rattle.event_worlds.specs.declared.doing.TaskProgress.{TaskProgress}
use Rattle.event_worlds.specs.declared.doing.TaskProgress.TheVariants.{Steps}
use Rattle.event_worlds.proofs.InHand.{its_doing}
use Rattle.event_worlds.proofs.task.WorldTask.take_step.Goals as goal

pub take_step-requires-clause-task : goal.take_step-requires-clause-task
take_step-requires-clause-task c =
    let t = c.requires.task in (
      course_of t.0,
      subst (λ (d : TaskProgress). IsDoing c.args.job (course_of t.0) d) c.in-Runs.is
          (its_doing c.args.job c.args.self.now t.0 c.in-Some._worker t.1 (sym c.hand.ensures ∙ c.in-Some.is)),
    )

pub returns-clause-stepped : goal.returns-clause-stepped
returns-clause-stepped c =
    record {
      worker = c.in-Some._worker;
      hand = sym c.hand.ensures ∙ c.in-Some.is;
      run = c.take_step.new.run;
      looked = subst (λ (d : TaskProgress). IsLooked c.args.job d (Steps c.take_step.new.run)) (sym c.in-Runs.is) c.in_ok-take_step.ensures.stepped;
      now = refl;
    }

pub returns-in_err-take_step-clause-memory : goal.returns-in_err-take_step-clause-memory
returns-in_err-take_step-clause-memory c =
    if_err_then c.from_residual.result c.from_residual.ensures.1
    (λ e same is. record {
      worker = c.in-Some._worker;
      hand = sym c.hand.ensures ∙ c.in-Some.is;
      next = subst (λ d. IsNextKind c.args.job d ToStep) (sym c.in-Runs.is) (c.in_err-take_step.ensures.memory (sym same ∙ is));
    })
