use Rattle.std.proofs.Common.{◌∙◌, Some, ap, arith, rules, sym}
use Rattle.std.proofs.lemmas.Bool.{OnFalse_from, OnTrue_from}
use Rattle.std.specs.Prelude.{◌<◌, ◌^◌, nat_eq}
use Rattle.event_worlds.specs.Replay.{is_number}
use Rattle.event_worlds.proofs.Gathers.{not_so_many, told_nowhere, told_right, told_wrong}
use Rattle.event_worlds.proofs.world.World.tells_number.Goals as goal

pub returns-then-not-may_leave-clause-right : goal.returns-then-not-may_leave-clause-right
returns-then-not-may_leave-clause-right c = λ worker w h.
    told_nowhere c.args.self.now w worker c.args.path.now.turns.items c.args.number (c.if-not-may_leave.ensures.not w worker h)

pub returns-in-Some-clause-right : goal.returns-in-Some-clause-right
returns-in-Some-clause-right c =
    let n = c.args.number in
    OnTrue_from (nat_eq n c.in-Some.all) _
    (λ e worker w h.
    let g = c.in-Some.ensures w h in
    told_right c.args.self.now w worker c.args.path.now.turns.items n (ap (is_number n) (g.is ∙ ap Some (sym g.fits.1)) ∙ e))

pub returns-in-Some-clause-wrong : goal.returns-in-Some-clause-wrong
returns-in-Some-clause-wrong c =
    let n = c.args.number in
    OnFalse_from (nat_eq n c.in-Some.all) _
    (λ e worker w h.
    let g = c.in-Some.ensures w h in
    told_wrong c.args.self.now w worker c.args.path.now.turns.items n (ap (is_number n) (g.is ∙ ap Some (sym g.fits.1)) ∙ e))

pub returns-in-None-clause-wrong : goal.returns-in-None-clause-wrong
returns-in-None-clause-wrong c = λ worker w h.
    let g = c.in-None.ensures w h in
    let small : c.args.number < 2 ^ 64 = first_of (search rules, grind arith) in
    told_wrong c.args.self.now w worker c.args.path.now.turns.items c.args.number
    (ap (is_number c.args.number) g.is ∙ not_so_many c.args.number g.number small g.fits)
