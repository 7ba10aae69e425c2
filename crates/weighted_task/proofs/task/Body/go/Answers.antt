use Rattle.std.proofs.Common.{◌∙◌, subst, sym}
use Rattle.std.proofs.lemmas.Option.{same_Some}
use Rattle.types.specs.Code.{Program}
use Rattle.plain_code.specs.Pieces.{IsCodeOfProgram}
use Rattle.task_run.specs.RunTurns.{NextIsOf}
use Rattle.weighted_task.specs.Tasks.{GoesBy}
use Rattle.weighted_task.proofs.InPlace.{in_place}
use Rattle.weighted_task.proofs.Staying.{can_go, next_of}
use Rattle.weighted_task.proofs.task.Body.go.Goals as goal

pub go-requires : goal.go-requires
go-requires c =
    let b = c.args.self.now in
    let run = c.in-Some.run' in
    let goes =
    subst (GoesBy b.job b.outer.items b.opened) (same_Some _ _ (sym c.requires.body.has ∙ c.in-Some.is)) c.requires.body.goes in
    record {
      code = subst (λ (p : Program). IsCodeOfProgram p c.args.code.now) (sym goes.may.program) c.requires.code;
      can = λ r far. can_go b.job b.outer.items b.opened run r goes far;
      next = λ r far.
          subst (λ (p : Program). NextIsOf p r) (sym goes.may.program) (next_of b.job b.outer.items b.opened run r goes far);
    }

pub returns-in-Ok-clause-goes : goal.returns-in-Ok-clause-goes
returns-in-Ok-clause-goes c = in_place c.args.self.now c.in-Some.run' c.go.new.self c.in-Some.is c.in-Ok.ensures.step
