use Rattle.std.proofs.Common.{◌≡◌, List, [], ◌∷◌, ◌++◌, refl, sym, ap, ◌∙◌, subst}
use Rattle.std.specs.Prelude.{slice_index_or}
use Rattle.serial_run.specs.declared.code.Flat.{Flat}
use Rattle.types.specs.Run.{Block}
use Rattle.types.specs.Meaning.{one}
use Rattle.types.specs.Translation.{program}
use Rattle.statement_steps.specs.declared.thread.Thread.{Thread}
use Rattle.task_run.specs.Standings.{state_of}
use Rattle.task_run.specs.Translation.{owned_by}
use Rattle.task_run.specs.declared.frame.TaskFrame.{TaskFrame as rFrame}
use Rattle.task_run.specs.declared.frame.TaskFrame.TheVariants.{Rest as rRest}
use Rattle.task_run.specs.declared.memory.TaskMemory.{TaskMemory}
use Rattle.task_run.proofs.Lists.{same_end}
use Rattle.task_run.proofs.StepsInPlace.{below, is_above, is_put}
use Rattle.task_run.proofs.run.Run.do_at_once.Goals as goal

pub returns : goal.returns
returns c =
    let m = c.args.self.now in
    let top = c.in-Some.top.now in
    let some = c.in-Some.ensures.item.3.0 in
    let read = c.in-Some.ensures.value in
    let p = program m.plan.program.now in
    let lent = c.replace-thread.ensures.value in
    let done = c.in_ok-self.ensures in
    record {
      plan = refl;
      nest = done.nest ∙ ap (λ (t : Thread TaskMemory). t.nest) lent;
      pending = refl;
      owned = done.shape ∙ ap (λ (t : Thread TaskMemory). owned_by t.store.holdings) lent;
      few = done.paid;
      frames = λ hs b is.
          let same = (same_end hs (below m.frames top some read) (rRest b) top (sym is ∙ is_above m.frames top some read)).front in
          is_put m.frames top some read (rRest c.args.rest) ∙ ap (λ (gs : List rFrame). gs ++ rRest c.args.rest ∷ []) (sym same);
      state = λ b f at of.
          done.state b f (subst (λ (fs : List Flat). slice_index_or fs c.args.number f ≡ f) (sym c.deref.ensures.value) at) of
          ∙ ap (λ (t : Thread TaskMemory). one p m.plan.budget.steps t.nest (Block b) (state_of t)) lent;
    }
