use Rattle.std.proofs.Common.{◌≡◌, ◌∙◌, subst, sym}
use Rattle.std.proofs.lemmas.Result.{IfOk-weaker}
use Rattle.plain_code.specs.Pieces.{IsCodeOfProgram}
use Rattle.task_run.specs.Jobs.{program_of}
use Rattle.task_run.specs.RunTurns.{StepSpawns}
use Rattle.weighted_task.specs.Tasks.{IsAsyncOf, IsBody}
use Rattle.weighted_task.specs.Turns.{GoesInPlace, TakesTurn}
use Rattle.weighted_task.specs.Units.{units_after, units_of}
use Rattle.weighted_task.specs.declared.task.Body.{Body}
use Rattle.weighted_task.proofs.InPlace.{went_done, went_to_end, went_units, did_turn, end_turn}
use Rattle.weighted_task.proofs.task.Task.go.Goals as goal

pub go-requires : goal.go-requires
go-requires c =
    let same = sym c.deref_mut.ensures.value in
    record {
      body = subst IsBody same c.requires.task;
      code = subst (λ (b : Body). IsCodeOfProgram (program_of b.job) c.args.code.now) same c.requires.code;
    }

pub did-requires : goal.did-requires
did-requires c =
    let b = c.args.self.body.value in let new = c.go.new.self in let s = c.in_ok-done.field-0 in
    let went = subst (λ (x : Body). GoesInPlace x s new) c.deref_mut.ensures.value c.in_ok-done.ensures.goes in
    let label =
    subst (λ (x : Body). StepSpawns (IsAsyncOf x) s) c.deref_mut.ensures.value c.in_ok-done.ensures.label in
    record { done = went_done b new s went c.in-Did.done c.in-Did.is c.requires.task label }

pub at_end-requires : goal.at_end-requires
at_end-requires c =
    let b = c.args.self.body.value in let new = c.go.new.self in let s = c.in_ok-done.field-0 in
    let went = subst (λ (x : Body). GoesInPlace x s new) c.deref_mut.ensures.value c.in_ok-done.ensures.goes in
    record { end = went_to_end b new s went c.in-AtEnd.is c.requires.task }

pub returns-in-Did : goal.returns-in-Did
returns-in-Did c =
    let old = c.args.self in let new = c.go.new.self in let s = c.in_ok-done.field-0 in
    let went = subst (λ (x : Body). GoesInPlace x s new) c.deref_mut.ensures.value c.in_ok-done.ensures.goes in
    record {
      turn =
          IfOk-weaker c.did.result _ (TakesTurn old) (λ t becomes. did_turn old new s t went c.in-Did.done c.in-Did.is becomes) c.did.ensures.becomes;
      tasks = c.did.ensures.tasks;
      units =
          IfOk-weaker c.did.result _ (λ t. units_after t ≡ units_of old) (λ t units. units ∙ went_units old.body.value new s went old.share.weight)
          c.did.ensures.units;
    }

pub returns-in-AtEnd : goal.returns-in-AtEnd
returns-in-AtEnd c =
    let old = c.args.self in let new = c.go.new.self in let s = c.in_ok-done.field-0 in
    let went = subst (λ (x : Body). GoesInPlace x s new) c.deref_mut.ensures.value c.in_ok-done.ensures.goes in
    record {
      turn = IfOk-weaker c.at_end.result _ (TakesTurn old) (λ t ends. end_turn old new s t went c.in-AtEnd.is ends) c.at_end.ensures.ends;
      tasks = c.at_end.ensures.tasks;
      units =
          IfOk-weaker c.at_end.result _ (λ t. units_after t ≡ units_of old)
          (λ t units. units ∙ went_units old.body.value new s went old.share.weight) c.at_end.ensures.units;
    }
