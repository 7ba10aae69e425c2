use Rattle.std.proofs.Common.{arith, subst}
use Rattle.effects.specs.Rounds.{needs_of}
use Rattle.task_run.specs.RunTurns.{IsTurn}
use Rattle.task_run.specs.Jobs.{program_of}
use Rattle.event_worlds.proofs.Turning.{can_go, goes_again, goes_fewer, goes_over, shows_as}
use Rattle.event_worlds.proofs.doing.ahead.Goals as goal

pub turns-init : goal.turns-init
turns-init c = record { job = c.requires.job; there = c.requires.task; same = λ d m. m }

pub advance-requires : goal.advance-requires
advance-requires c = can_go c.turns.invariant

pub returns-then-next-steps-clause-same : goal.returns-then-next-steps-clause-same
returns-then-next-steps-clause-same c = λ d m.
    let less = c.if-next-steps.true in
    (shows_as c.turns.invariant c.in-Ok-Going.field-0-is c.in-Ok-Going.ensures.turn d m).0 (omega (arith, less))

pub turns-smaller-in-Ok-Going : goal.turns-smaller-in-Ok-Going
turns-smaller-in-Ok-Going c =
    let is = subst (IsTurn (needs_of (program_of c.args.job)) c.turns.run) c.in-Ok-Going.field-0-is c.in-Ok-Going.ensures.turn in
    goes_fewer c.turns.invariant _ is

pub turns-preserved-in-Ok-Going : goal.turns-preserved-in-Ok-Going
turns-preserved-in-Ok-Going c =
    let is = subst (IsTurn (needs_of (program_of c.args.job)) c.turns.run) c.in-Ok-Going.field-0-is c.in-Ok-Going.ensures.turn in
    let more = c.if-next-steps.false in
    goes_again c.turns.invariant _ is (omega (arith, more))

pub turns-smaller : goal.turns-smaller
turns-smaller c =
    goes_fewer c.turns.invariant _
    (subst (IsTurn (needs_of (program_of c.args.job)) c.turns.run) c.in-Ok-Over.field-0-is c.in-Ok-Over.ensures.turn)

pub turns-preserved : goal.turns-preserved
turns-preserved c =
    goes_over c.turns.invariant _
    (subst (IsTurn (needs_of (program_of c.args.job)) c.turns.run) c.in-Ok-Over.field-0-is c.in-Ok-Over.ensures.turn)

pub returns-in-Ok-Spawns-clause-same : goal.returns-in-Ok-Spawns-clause-same
returns-in-Ok-Spawns-clause-same c = shows_as c.turns.invariant c.in-Ok-Spawns.field-0-is c.in-Ok-Spawns.ensures.turn

pub returns-in-Ok-EntersFinish-clause-same : goal.returns-in-Ok-EntersFinish-clause-same
returns-in-Ok-EntersFinish-clause-same c = shows_as c.turns.invariant c.in-Ok-EntersFinish.field-0-is c.in-Ok-EntersFinish.ensures.turn

pub returns-in-Ok-EndsFinish-clause-same : goal.returns-in-Ok-EndsFinish-clause-same
returns-in-Ok-EndsFinish-clause-same c = shows_as c.turns.invariant c.in-Ok-EndsFinish.field-0-is c.in-Ok-EndsFinish.ensures.turn

pub returns-in-Ok-Ended-clause-same : goal.returns-in-Ok-Ended-clause-same
returns-in-Ok-Ended-clause-same c = shows_as c.turns.invariant c.in-Ok-Ended.field-0-is c.in-Ok-Ended.ensures.turn
