use Rattle.std.proofs.Common.{◌∙◌, Some, ap, sym}
use Rattle.std.proofs.lemmas.Result.{IfOk-weaker}
use Rattle.shared_lemmas.proofs.Lists.{same_elements}
use Rattle.event_worlds.specs.Events.{Resume}
use Rattle.event_worlds.specs.Replaying.{event}
use Rattle.event_worlds.proofs.Gathers.{not_legal, numbered_so}
use Rattle.event_worlds.proofs.world.World.numbered.Goals as goal

pub returns-then-not-may_leave-clause-numbered : goal.returns-then-not-may_leave-clause-numbered
returns-then-not-may_leave-clause-numbered c =
    IfOk-weaker c.copy-then-not-may_leave.result _ _
    (λ e same w to h legal. absurd (not_legal c.args.self.now c.in-Resume.path (event c.args.event.now) c.in-Resume.worker _ w to
    (ap event c.in-Resume.is) (c.if-not-may_leave.ensures.not w c.in-Resume.worker h) legal)) c.copy-then-not-may_leave.ensures.same

pub returns-clause-numbered : goal.returns-clause-numbered
returns-clause-numbered c = λ w to h legal.
    let has = c.in-Some.ensures w h in
    let path = same_elements c.in-Resume.path.turns.items c.in_ok-path.path.turns.items c.in_ok-path.ensures.cases.0 in
    ap (λ q. Resume c.in-Resume.worker q (Some c.in-Some.faults)) path
    ∙ numbered_so c.args.self.now c.in-Resume.path (event c.args.event.now) c.in-Resume.worker _ c.in-Some.faults w (ap event c.in-Resume.is)
    (has.is ∙ ap Some (sym has.fits.1))
