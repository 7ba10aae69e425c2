use Rattle.std.proofs.Common.{◌∙◌, refl, ap, sym, subst, map, arith}
use Rattle.types.specs.Run.{State}
use Rattle.task_run.specs.Standings.{Stacked}
use Rattle.task_run.specs.Translation.{listed}
use Rattle.task_run.proofs.run.Run.clone.Goals as goal

pub returns : goal.returns
returns c =
    let t = c.in_ok-thread.ensures in
    let spawned = ap (λ (s : State (Unit {0})). s.spawned) t.state in
    let steps = ap (λ (s : State (Unit {0})). s.steps) t.state in
    record {
      plan = refl;
      nest = t.nest;
      state = t.state;
      shows = λ fs x h.
          let few = h.few in
          record {
            frames = c.in_ok-frames.ensures fs (subst (λ gs. Stacked gs fs) (sym c.deref.ensures.value) h.frames);
            owned = h.owned ∙ sym t.owned;
            pending = h.pending ∙ ap (map listed) (sym c.deref-2.ensures.value) ∙ sym c.in_ok-children.ensures;
            few = omega (arith, few, spawned, steps);
          };
    }
