use Rattle.std.proofs.Common.{sym, subst}
use Rattle.task_run.specs.RunTurns.{IsAtEnd, IsStep, IsTurn}
use Rattle.task_run.specs.declared.run.Run.{Run}
use Rattle.task_run.proofs.run.Run.advance.Goals as goal

pub end-requires : goal.end-requires
end-requires g c =
    let needs = g.N.Needed.needs c.args.needed.now in
    let stays = subst (λ s. IsStep needs c.args.self s c.step.new.self) c.in-AtEnd.is c.in_ok-done.ensures.step in
    subst IsAtEnd (sym stays.0) stays.1

pub returns-clause-turn : goal.returns-clause-turn
returns-clause-turn g c =
    let needs = g.N.Needed.needs c.args.needed.now in
    let stays = subst (λ s. IsStep needs c.args.self s c.step.new.self) c.in-AtEnd.is c.in_ok-done.ensures.step in
    subst (λ (r : Run). IsTurn needs r c.in_ok-end-in-AtEnd.field-0) stays.0 (c.in_ok-end-in-AtEnd.ensures.turn needs)
