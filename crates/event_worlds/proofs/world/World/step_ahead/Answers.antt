use Rattle.std.proofs.Common.{subst}
use Rattle.std.proofs.lemmas.Result.{on_ok_weaker, IfErr-weaker}
use Rattle.event_worlds.specs.Acting.{SteppedIf}
use Rattle.event_worlds.specs.Events.{Steps}
use Rattle.std.proofs.lemmas.Bool.{OnFalse_at, OnTrue_at}
use Rattle.event_worlds.proofs.Judging.{err_any, legal_then}
use Rattle.event_worlds.proofs.LookingAhead.{becomes_then, illegal_by, illegal_then, still_world}
use Rattle.event_worlds.proofs.world.World.step_ahead.Goals as goal

pub look_ahead-requires : goal.look_ahead-requires
look_ahead-requires c =
    still_world c.args.self.now c.take_step.new.self c.requires
    (subst (λ b. SteppedIf b c.args.path.now.turns.items c.args.self.now c.take_step.new.self) c.if-branch.false
    c.in_ok-take_step.ensures.stepped)

pub step-requires : goal.step-requires
step-requires c =
    let left = subst (λ b. SteppedIf b c.args.path.now.turns.items c.args.self.now c.take_step.new.self) c.if-branch.false
    c.in_ok-take_step.ensures.stepped in
    still_world c.take_step.new.self c.look_ahead.new.self (still_world c.args.self.now c.take_step.new.self c.requires left)
    c.in_ok-look_ahead.ensures.stays

pub returns-clause-stepped : goal.returns-clause-stepped
returns-clause-stepped c =
    let e = Steps c.args.path.now.turns.items in
    let left = subst (λ b. SteppedIf b c.args.path.now.turns.items c.args.self.now c.take_step.new.self) c.if-branch.false
    c.in_ok-take_step.ensures.stepped in
    on_ok_weaker c.step.result
    (λ b. becomes_then c.args.self.now c.take_step.new.self c.step.new.self e left
    (becomes_then c.take_step.new.self c.look_ahead.new.self c.step.new.self e c.in_ok-look_ahead.ensures.stays b))
    c.step.ensures.stepped

pub returns-clause-refused : goal.returns-clause-refused
returns-clause-refused c =
    let e = Steps c.args.path.now.turns.items in
    let left = subst (λ b. SteppedIf b c.args.path.now.turns.items c.args.self.now c.take_step.new.self) c.if-branch.false
    c.in_ok-take_step.ensures.stepped in
    IfErr-weaker c.step.result _ _
    (λ x r is. illegal_then c.args.self.now c.take_step.new.self e left
    (illegal_then c.take_step.new.self c.look_ahead.new.self e c.in_ok-look_ahead.ensures.stays
    (illegal_by c.look_ahead.new.self c.step.new.self e x r is))) c.step.ensures.refused

pub may_step-requires : goal.may_step-requires
may_step-requires c =
    still_world c.args.self.now c.take_step.new.self c.requires
    (subst (λ b. SteppedIf b c.args.path.now.turns.items c.args.self.now c.take_step.new.self) c.if-branch.false
    c.in_ok-take_step.ensures.stepped)

pub returns-then-not-may_step-clause-refused : goal.returns-then-not-may_step-clause-refused
returns-then-not-may_step-clause-refused c = λ is.
    let left = subst (λ b. SteppedIf b c.args.path.now.turns.items c.args.self.now c.take_step.new.self) c.if-branch.false
    c.in_ok-take_step.ensures.stepped in
    illegal_then c.args.self.now c.take_step.new.self (Steps c.args.path.now.turns.items) left
    (OnFalse_at c.if-not-may_step.true c.may_step.ensures.illegal)

pub returns-in_err-look_ahead-clause-memory : goal.returns-in_err-look_ahead-clause-memory
returns-in_err-look_ahead-clause-memory c =
    let left = subst (λ b. SteppedIf b c.args.path.now.turns.items c.args.self.now c.take_step.new.self) c.if-branch.false
    c.in_ok-take_step.ensures.stepped in
    err_any c.from_residual-in_err-look_ahead.result
    (λ x is. legal_then c.args.self.now c.take_step.new.self (Steps c.args.path.now.turns.items) left
    (OnTrue_at c.if-not-may_step.false c.may_step.ensures.legal))

pub returns-clause-memory : goal.returns-clause-memory
returns-clause-memory c =
    let left = subst (λ b. SteppedIf b c.args.path.now.turns.items c.args.self.now c.take_step.new.self) c.if-branch.false
    c.in_ok-take_step.ensures.stepped in
    err_any c.step.result
    (λ x is. legal_then c.args.self.now c.take_step.new.self (Steps c.args.path.now.turns.items) left
    (OnTrue_at c.if-not-may_step.false c.may_step.ensures.legal))
