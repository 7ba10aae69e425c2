use Rattle.std.proofs.Common.{◌≡◌, ◌∙◌, ap, rules, sym}
use Rattle.std.proofs.lemmas.Option.{none-some, same_Some}
use Rattle.std.proofs.lemmas.Bool.{OnFalse_from, OnTrue_from}
use Rattle.event_worlds.specs.declared.scope.WorldScope.{WorldScope as rScope}
use Rattle.event_worlds.specs.declared.task.Whereabouts.TheVariants.{Parked}
use Rattle.event_worlds.proofs.Behind.{may_leave_so, unpassed_stays}
use Rattle.event_worlds.proofs.world.World.may_leave.Goals as goal

pub returns-in-Some-get-2-clause-may : goal.returns-in-Some-get-2-clause-may
returns-in-Some-get-2-clause-may c =
    let place : c.in-Some.task.now.place ≡ Parked = search rules in
    OnTrue_from c.in-Some-get-2.scope.now.passed _
    (λ passed. may_leave_so c.args.self.now c.args.path.now c.in-Some.task.now (sym c.in-Some.ensures.value) place
    c.in-Some-get.ensures.item.3.0 c.in-Some-front.stake.now c.in-Some-front.ensures.lookup c.in-Some-get-2.scope.now
    (sym c.in-Some-get-2.ensures.value) passed)

pub returns-in-Some-get-2-clause-not : goal.returns-in-Some-get-2-clause-not
returns-in-Some-get-2-clause-not c =
    OnFalse_from c.in-Some-get-2.scope.now.passed _
    (λ unpassed w worker h. unpassed_stays c.args.self.now w h c.args.path.now worker c.in-Some.task.now (sym c.in-Some.ensures.value)
    c.in-Some-front.stake.now c.in-Some-front.ensures.lookup
    (λ b there. ap (λ (s : rScope). s.passed) (same_Some _ _ (sym there ∙ sym c.in-Some-get-2.ensures.value)) ∙ unpassed))

pub returns-in-None-clause-not : goal.returns-in-None-clause-not
returns-in-None-clause-not c = λ w worker h.
    unpassed_stays c.args.self.now w h c.args.path.now worker c.in-Some.task.now (sym c.in-Some.ensures.value)
    c.in-Some-front.stake.now c.in-Some-front.ensures.lookup
    (λ b there. absurd (none-some _ (c.in-None.ensures.value ∙ there)))
