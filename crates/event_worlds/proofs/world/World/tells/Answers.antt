use Rattle.std.proofs.Common.{refl, subst, sym}
use Rattle.std.specs.Bool.{OnFalse, OnTrue}
use Rattle.event_worlds.specs.Telling.{MayNotTell, MayTell}
use Rattle.event_worlds.proofs.world.World.tells.Goals as goal

pub returns-in-Some-clause-right : goal.returns-in-Some-clause-right
returns-in-Some-clause-right c =
    subst (λ f. OnTrue c.tells_number.result (MayTell c.args.self.now c.args.path.now.turns.items f)) (sym c.in-Some.is)
    c.tells_number.ensures.right

pub returns-in-Some-clause-wrong : goal.returns-in-Some-clause-wrong
returns-in-Some-clause-wrong c =
    subst (λ f. OnFalse c.tells_number.result (MayNotTell c.args.self.now c.args.path.now.turns.items f)) (sym c.in-Some.is)
    c.tells_number.ensures.wrong

pub returns-in-None-clause-right : goal.returns-in-None-clause-right
returns-in-None-clause-right c =
    subst (λ f. MayTell c.args.self.now c.args.path.now.turns.items f) (sym c.in-None.is) (λ worker w h. refl)
