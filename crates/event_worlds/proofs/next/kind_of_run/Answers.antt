use Rattle.std.proofs.Common.{List, subst, sym}
use Rattle.types.specs.Translation.{environment}
use Rattle.task_run.specs.declared.frame.TaskFrame.{TaskFrame}
use Rattle.event_worlds.specs.NextKinds.{IsLeft}
use Rattle.event_worlds.proofs.NextKinds.{all_left}
use Rattle.event_worlds.proofs.next.kind_of_run.Goals as goal

pub returns : goal.returns
returns c = λ j d ok m.
    let r = c.args.run.now in
    c.kind_of_frames.ensures j d ok m.nest
    (subst (λ (fs : List TaskFrame). IsLeft j d fs (environment r.thread.environment) r.thread.flow r.thread.steps) (sym c.deref.ensures.value) (all_left j ok d r m))
