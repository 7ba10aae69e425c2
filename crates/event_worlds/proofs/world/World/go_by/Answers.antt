use Rattle.std.proofs.Common.{◌≡◌, subst, sym}
use Rattle.std.proofs.lemmas.Result.{on_ok_weaker, IfErr-weaker}
use Rattle.std.specs.Prelude.{IfErr, OnOk}
use Rattle.event_worlds.specs.Replaying.{event}
use Rattle.event_worlds.specs.declared.error.EventError.TheVariants.{NoMemory}
use Rattle.event_worlds.specs.Shown.{Becomes, IsLegal}
use Rattle.std.proofs.lemmas.Bool.{OnTrue_at}
use Rattle.event_worlds.proofs.Judging.{err_any}
use Rattle.event_worlds.proofs.LookingAhead.{becomes_then, illegal_by, illegal_then, still_world}
use Rattle.event_worlds.proofs.world.World.go_by.Goals as goal

pub returns-in-Step-clause-legal : goal.returns-in-Step-clause-legal
returns-in-Step-clause-legal c =
    subst (λ e. OnOk c.step_ahead.result (Becomes (event e) c.args.self.now c.step_ahead.new.self)) (sym c.in-Step.is)
    c.step_ahead.ensures.stepped

pub returns-in-Resume-clause-legal : goal.returns-in-Resume-clause-legal
returns-in-Resume-clause-legal c =
    subst (λ e. OnOk c.go_on_telling.result (Becomes (event e) c.args.self.now c.go_on_telling.new.self)) (sym c.in-Resume.is)
    c.go_on_telling.ensures.resumed

pub change-requires-2 : goal.change-requires-2
change-requires-2 c = still_world c.args.self.now c.look_ahead.new.self c.requires c.in_ok-look_ahead.ensures.stays

pub returns-clause-legal : goal.returns-clause-legal
returns-clause-legal c =
    on_ok_weaker c.change-2.result
    (λ b. becomes_then c.args.self.now c.look_ahead.new.self c.change-2.new.self (event c.args.event.now) c.in_ok-look_ahead.ensures.stays b)
    c.change-2.ensures.legal

pub returns-clause-refused : goal.returns-clause-refused
returns-clause-refused c =
    IfErr-weaker c.change-2.result _ _
    (λ x r is. illegal_then c.args.self.now c.look_ahead.new.self (event c.args.event.now) c.in_ok-look_ahead.ensures.stays
    (illegal_by c.look_ahead.new.self c.change-2.new.self (event c.args.event.now) x r is)) c.change-2.ensures.refused

pub returns-in-Step-clause-memory : goal.returns-in-Step-clause-memory
returns-in-Step-clause-memory c =
    subst (λ e. IfErr c.step_ahead.result (λ x. x ≡ NoMemory → IsLegal c.args.self.now (event e))) (sym c.in-Step.is)
    c.step_ahead.ensures.memory

pub returns-in-Resume-clause-memory : goal.returns-in-Resume-clause-memory
returns-in-Resume-clause-memory c =
    subst (λ e. IfErr c.go_on_telling.result (λ x. x ≡ NoMemory → IsLegal c.args.self.now (event e))) (sym c.in-Resume.is)
    c.go_on_telling.ensures.memory

pub returns-in_err-look_ahead-clause-memory : goal.returns-in_err-look_ahead-clause-memory
returns-in_err-look_ahead-clause-memory c =
    err_any c.from_residual.result (λ x is. OnTrue_at c.if-not-is_legal.false c.is_legal.ensures.legal)

pub returns-clause-memory : goal.returns-clause-memory
returns-clause-memory c =
    err_any c.change-2.result (λ x is. OnTrue_at c.if-not-is_legal.false c.is_legal.ensures.legal)
