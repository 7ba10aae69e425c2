use Rattle.std.proofs.Common.{◌∙◌, arith, subst, sym}
use Rattle.effects.specs.Rounds.{needs_of}
use Rattle.task_run.specs.RunTurns.{IsStep}
use Rattle.task_run.specs.declared.turn.Step.{Step}
use Rattle.task_run.proofs.GoingOn.{did}
use Rattle.task_run.specs.Jobs.{program_of}
use Rattle.event_worlds.specs.NextKinds.{HasNext}
use Rattle.event_worlds.proofs.NextKinds.{next_no_step, step_kind}
use Rattle.event_worlds.proofs.Turning.{can_go, ends_not, enters_not, goes_again, goes_fewer, goes_over, shows_so, spawns_not}
use Rattle.event_worlds.proofs.doing.take_step.Goals as goal

pub turns-init : goal.turns-init
turns-init c = record { job = c.requires.job; there = c.requires.task; same = λ d m. m }

pub step-requires : goal.step-requires
step-requires c = can_go c.turns.invariant

pub returns-then-run-steps-clause-stepped : goal.returns-then-run-steps-clause-stepped
returns-then-run-steps-clause-stepped c =
    let is = did (needs_of (program_of c.args.job)) c.turns.run c.step.new.self _ _ _
    c.in-Ok-Did.ensures.step c.in-Ok-Did.field-0-is c.in-Gone.is in
    let less = c.if-run-steps.true in
    record { known = tt; same = λ d m. (shows_so c.turns.invariant _ is d m).0 (omega (arith, less)) }

pub turns-smaller-else-run-steps : goal.turns-smaller-else-run-steps
turns-smaller-else-run-steps c =
    goes_fewer c.turns.invariant _
    (did (needs_of (program_of c.args.job)) c.turns.run c.step.new.self _ _ _
    c.in-Ok-Did.ensures.step c.in-Ok-Did.field-0-is c.in-Gone.is)

pub turns-preserved-else-run-steps : goal.turns-preserved-else-run-steps
turns-preserved-else-run-steps c =
    let is = did (needs_of (program_of c.args.job)) c.turns.run c.step.new.self _ _ _
    c.in-Ok-Did.ensures.step c.in-Ok-Did.field-0-is c.in-Gone.is in
    let more = c.if-run-steps.false in
    goes_again c.turns.invariant _ is (omega (arith, more))

pub turns-smaller : goal.turns-smaller
turns-smaller c =
    goes_fewer c.turns.invariant _
    (did (needs_of (program_of c.args.job)) c.turns.run c.step.new.self _ _ _
    c.in-Ok-Did.ensures.step c.in-Ok-Did.field-0-is c.in-Exceeded.is)

pub turns-preserved : goal.turns-preserved
turns-preserved c =
    goes_over c.turns.invariant _
    (did (needs_of (program_of c.args.job)) c.turns.run c.step.new.self _ _ _
    c.in-Ok-Did.ensures.step c.in-Ok-Did.field-0-is c.in-Exceeded.is)

pub returns-in-Spawned-clause-refused : goal.returns-in-Spawned-clause-refused
returns-in-Spawned-clause-refused c = λ refused d m next.
    let is = did (needs_of (program_of c.args.job)) c.turns.run c.step.new.self _ _ _
    c.in-Ok-Did.ensures.step c.in-Ok-Did.field-0-is c.in-Spawned.is in
    spawns_not c.args.job c.turns.invariant.job d c.turns.run.thread.steps c.step.new.self c.in-Spawned.field-0.value
    (shows_so c.turns.invariant _ is d m) next

pub returns-in-Entered-clause-refused : goal.returns-in-Entered-clause-refused
returns-in-Entered-clause-refused c = λ refused d m next.
    let is = did (needs_of (program_of c.args.job)) c.turns.run c.step.new.self _ _ _
    c.in-Ok-Did.ensures.step c.in-Ok-Did.field-0-is c.in-Entered.is in
    enters_not c.args.job c.turns.invariant.job d c.turns.run.thread.steps c.step.new.self
    (shows_so c.turns.invariant _ is d m) next

pub returns-in-Ok-AtEnd-clause-refused : goal.returns-in-Ok-AtEnd-clause-refused
returns-in-Ok-AtEnd-clause-refused c = λ refused d m next.
    let i = c.turns.invariant in
    let stays = subst (λ (s : Step). IsStep (needs_of (program_of c.args.job)) c.turns.run s c.step.new.self) c.in-Ok-AtEnd.field-0-is
    c.in-Ok-AtEnd.ensures.step in
    ends_not c.args.job i.job d c.turns.run (i.same d m) stays.1 next

pub returns-then-not-is_step-clause-refused : goal.returns-then-not-is_step-clause-refused
returns-then-not-is_step-clause-refused c = λ refused d m.
    next_no_step c.args.job d c.kind_of_run.result (sym c.is_step.ensures ∙ c.if-not-is_step.true)
    (c.kind_of_run.ensures c.args.job d c.requires.job m)

pub returns-in-Err-clause-memory : goal.returns-in-Err-clause-memory
returns-in-Err-clause-memory c = λ is d m.
    subst (HasNext c.args.job d) (step_kind c.kind_of_run.result (sym c.is_step.ensures ∙ c.if-not-is_step.false))
    (c.kind_of_run.ensures c.args.job d c.requires.job m)
