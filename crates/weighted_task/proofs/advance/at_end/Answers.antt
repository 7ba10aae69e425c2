use Rattle.std.proofs.Common.{◌≡◌, ℕ, ◌+◌, ◌∙◌, Option, Some, ap, subst, sym}
use Rattle.std.proofs.lemmas.Option.{same_Some}
use Rattle.std.proofs.lemmas.Result.{IfOk-weaker}
use Rattle.std.specs.Prelude.{IfOk}
use Rattle.task_run.specs.RunTurns.{IsAtEnd}
use Rattle.task_run.specs.declared.result.TaskResult.{TaskResult as Made}
use Rattle.task_run.specs.declared.run.Run.{Run}
use Rattle.task_run.specs.declared.turn.Turn.TheVariants.{EndsFinish as RunEndsFinish, Ended as RunEnded}
use Rattle.weighted_task.specs.Turns.{AreTasks, Becomes, EndsBy, IsEndOf, RunsToEnd, turning}
use Rattle.weighted_task.specs.Units.{held, units_after}
use Rattle.weighted_task.specs.declared.finish.Ending.{Ending}
use Rattle.weighted_task.specs.declared.finish.Owner.{Owner}
use Rattle.weighted_task.specs.declared.finish.Owner.TheVariants.{Main, Finish}
use Rattle.weighted_task.specs.declared.task.Body.{Body}
use Rattle.weighted_task.specs.declared.turn.WeightedTurn.{WeightedTurn}
use Rattle.weighted_task.specs.declared.turn.WeightedTurn.TheVariants.{Going, Spawns, WantsWeight, EntersFinish}
use Rattle.weighted_task.specs.declared.turn.WeightedTurn.TheVariants.{EndsFinish, Ended, Over}
use Rattle.weighted_task.proofs.InPlace.{ends_by, its_turn}
use Rattle.weighted_task.proofs.Staying.{waiting}
use Rattle.weighted_task.proofs.Turning.{ended_tasks, ended_units, ends_task, ends_units}
use Rattle.weighted_task.proofs.advance.at_end.Goals as goal

-- the run is that which is at an end
its_run : (b x : Body) (run : Run) (h : RunsToEnd b) → x ≡ b → x.run ≡ Some run → run ≡ h.run
its_run b x run h same is = same_Some _ _ (sym is ∙ ap (λ (b : Body). b.run) same ∙ h.has)

-- where a task ends, its run doesn't matter
ends_without : (b : Body) (o : Option Run) (u : ℕ) (owner : Owner) (made : Made) (e : Ending)
    → IsEndOf (record b { run = o }) u owner made e → IsEndOf (turning b) u owner made e
ends_without b o u owner made e h = record {
  job = h.job;
  owner = h.owner;
  made = h.made;
  scope = h.scope;
  outer = h.outer;
  opened = h.opened;
  weight = h.weight;
}

becomes_without : (b : Body) (o : Option Run) (u : ℕ) (made : Made) (t : WeightedTurn)
    → Becomes (record b { run = o }) u (RunEnded made) t → Becomes (turning b) u (RunEnded made) t
becomes_without b o u made (Going t) h = absurd h
becomes_without b o u made (Spawns t c) h = absurd h
becomes_without b o u made (WantsWeight w) h = absurd h
becomes_without b o u made (EntersFinish e) h = absurd h
becomes_without b o u made (EndsFinish e) h = (h.0, ends_without b o u Main made e h.1)
becomes_without b o u made (Ended r) h = record {
  below = h.below;
  job = h.job;
  made = h.made;
  scope = h.scope;
  weight = h.weight;
}
becomes_without b o u made (Over t) h = absurd h

pub end-requires : goal.end-requires
end-requires c =
    let h = c.requires.end in
    subst IsAtEnd (sym (its_run c.args.body.value _ c.in-Some.run' h c.deref_mut.ensures.value c.in-Some.is)) h.end

pub returns-in_ok-ending-in-EndsFinish : goal.returns-in_ok-ending-in-EndsFinish
returns-in_ok-ending-in-EndsFinish c =
    let b = c.args.body.value in let h = c.requires.end in let u = c.args.share.weight in
    let same = its_run b _ c.in-Some.run' h c.deref_mut.ensures.value c.in-Some.is in
    let q = c.in-EndsFinish.paused in let made = c.in-EndsFinish.made in let new = c.in_ok-ending-in-EndsFinish.field-0 in
    let after : Option Run = Some c.end.new.self in
    let e = ends_without b after u (Finish q) made new
    (subst (λ (x : Body). IsEndOf (record x { run = after }) u (Finish q) made new) c.deref_mut.ensures.value
    c.in_ok-ending-in-EndsFinish.ensures) in
    let is = its_turn b h c.in-Some.run' same c.in_ok-paused.field-0 c.in_ok-paused.ensures.turn (RunEndsFinish q made) c.in-EndsFinish.is in
    record {
      ends =
          ends_by b h c.in-Some.run' same c.in_ok-paused.field-0 c.in_ok-paused.ensures.turn c.in_ok-paused.ensures.ends u
          (RunEndsFinish q made) _ c.in-EndsFinish.is e;
      tasks =
          ends_task (turning b) u (Finish q) made new e
          (h.goes.job, waiting b.job b.outer.items b.opened h.run h.goes q made is);
      units = ends_units (turning b) u (Finish q) made new e;
    }

pub returns-in-Ended : goal.returns-in-Ended
returns-in-Ended c =
    let b = c.args.body.value in let h = c.requires.end in let u = c.args.share.weight in
    let same = its_run b _ c.in-Some.run' h c.deref_mut.ensures.value c.in-Some.is in
    let made = c.in-Ended.made in let r = c.ended.result in
    let after : Option Run = Some c.end.new.self in
    let is = its_turn b h c.in-Some.run' same c.in_ok-paused.field-0 c.in_ok-paused.ensures.turn (RunEnded made) c.in-Ended.is in
    let becomes =
    IfOk-weaker r (Becomes (record b { run = after }) u (RunEnded made)) (Becomes (turning b) u (RunEnded made)) (becomes_without b after u made)
    (subst (λ (x : Body). IfOk r (Becomes (record x { run = after }) u (RunEnded made))) c.deref_mut.ensures.value c.ended.ensures) in
    record {
      ends =
          IfOk-weaker r _ (EndsBy b u)
          (λ t becomes. ends_by b h c.in-Some.run' same c.in_ok-paused.field-0 c.in_ok-paused.ensures.turn c.in_ok-paused.ensures.ends u
          (RunEnded made) t c.in-Ended.is becomes) becomes;
      tasks = IfOk-weaker r _ AreTasks (λ t becomes. ended_tasks (turning b) u made h.run h.goes is t becomes) becomes;
      units =
          IfOk-weaker r _ (λ t. units_after t ≡ u + held b.outer.items)
          (λ t becomes. ended_units (turning b) u made h.run h.goes is t becomes) becomes;
    }
