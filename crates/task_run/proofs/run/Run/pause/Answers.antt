use Rattle.std.proofs.Common.{◌∙◌, [], ap, refl, subst, sym, Vec, Global}
use Rattle.types.specs.Translation.{environment}
use Rattle.types.specs.declared.value.Environment.{Environment as rEnvironment}
use Rattle.task_run.specs.Standings.{Stacked}
use Rattle.task_run.specs.declared.frame.TaskFrame.{TaskFrame as rFrame}
use Rattle.task_run.proofs.run.Run.pause.Goals as goal

pub returns : goal.returns
returns c = λ before fs x ends shows. (
  record {
    frames = subst (λ (v : Vec rFrame Global). Stacked v.items fs) (sym c.replace-frames.ensures.value) shows.frames;
    outer = ends;
    environment = ap (λ (e : rEnvironment). environment e) c.replace-environment.ensures.value;
    steps = refl;
    path = c.in_ok-path.ensures;
    spawned = refl;
    few = shows.few;
  },
  refl,
  refl,
  c.result-made.ensures [] x
      (record {
        frames = ap (λ (v : Vec rFrame Global). v.items) c.replace-frames.ensures.after ∙ c.new.ensures.items;
        owned = shows.owned;
        pending = shows.pending;
        few = shows.few;
      }),
)
