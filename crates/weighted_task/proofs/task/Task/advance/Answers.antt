use Rattle.std.proofs.Common.{◌≡◌, ◌∙◌, subst, sym}
use Rattle.std.proofs.lemmas.Result.{IfOk-weaker}
use Rattle.task_run.specs.RunTurns.{StepSpawns}
use Rattle.weighted_task.specs.Tasks.{IsAsyncOf, IsBody}
use Rattle.weighted_task.specs.Turns.{TurnsInPlace, TakesOneTurn}
use Rattle.weighted_task.specs.Units.{units_after, units_of}
use Rattle.weighted_task.specs.declared.task.Body.{Body}
use Rattle.weighted_task.proofs.InPlace.{turned_done, turned_to_end, turned_units, did_one_turn, end_one_turn}
use Rattle.weighted_task.proofs.task.Task.advance.Goals as goal

pub advance-requires : goal.advance-requires
advance-requires c = subst IsBody (sym c.deref_mut.ensures.value) c.requires.task

pub did-requires : goal.did-requires
did-requires c =
    let b = c.args.self.body.value in let new = c.advance.new.self in let s = c.in_ok-done.field-0 in
    let went = subst (λ (x : Body). TurnsInPlace x s new) c.deref_mut.ensures.value c.in_ok-done.ensures.turn in
    let label =
    subst (λ (x : Body). StepSpawns (IsAsyncOf x) s) c.deref_mut.ensures.value c.in_ok-done.ensures.label in
    record { done = turned_done b new s went c.in-Did.done c.in-Did.is c.requires.task label }

pub at_end-requires : goal.at_end-requires
at_end-requires c =
    let b = c.args.self.body.value in let new = c.advance.new.self in let s = c.in_ok-done.field-0 in
    let went = subst (λ (x : Body). TurnsInPlace x s new) c.deref_mut.ensures.value c.in_ok-done.ensures.turn in
    record { end = turned_to_end b new s went c.in-AtEnd.is c.requires.task }

pub returns-in-Did : goal.returns-in-Did
returns-in-Did c =
    let old = c.args.self in let new = c.advance.new.self in let s = c.in_ok-done.field-0 in
    let went = subst (λ (x : Body). TurnsInPlace x s new) c.deref_mut.ensures.value c.in_ok-done.ensures.turn in
    record {
      turn =
          IfOk-weaker c.did.result _ (TakesOneTurn old) (λ t becomes. did_one_turn old new s t went c.in-Did.done c.in-Did.is becomes) c.did.ensures.becomes;
      tasks = c.did.ensures.tasks;
      units =
          IfOk-weaker c.did.result _ (λ t. units_after t ≡ units_of old) (λ t units. units ∙ turned_units old.body.value new s went old.share.weight)
          c.did.ensures.units;
    }

pub returns-in-AtEnd : goal.returns-in-AtEnd
returns-in-AtEnd c =
    let old = c.args.self in let new = c.advance.new.self in let s = c.in_ok-done.field-0 in
    let went = subst (λ (x : Body). TurnsInPlace x s new) c.deref_mut.ensures.value c.in_ok-done.ensures.turn in
    record {
      turn = IfOk-weaker c.at_end.result _ (TakesOneTurn old) (λ t ends. end_one_turn old new s t went c.in-AtEnd.is ends) c.at_end.ensures.ends;
      tasks = c.at_end.ensures.tasks;
      units =
          IfOk-weaker c.at_end.result _ (λ t. units_after t ≡ units_of old)
          (λ t units. units ∙ turned_units old.body.value new s went old.share.weight) c.at_end.ensures.units;
    }
