use Rattle.std.proofs.Common.{◌∙◌, None, sym, subst}
use Rattle.event_worlds.specs.Events.{Resume}
use Rattle.event_worlds.specs.Shown.{Refuses}
use Rattle.event_worlds.specs.declared.world.World.{World as rWorld}
use Rattle.event_worlds.proofs.InHand.{err_passed}
use Rattle.event_worlds.proofs.Behind.{behind_by, may_go, results_of, resumed, roomy_stands, roomy_stays, same_at}
use Rattle.event_worlds.proofs.Staying.{stays_self}
use Rattle.event_worlds.proofs.world.World.resume.Goals as goal

pub returns-then-not-may_leave-clause-refused : goal.returns-then-not-may_leave-clause-refused
returns-then-not-may_leave-clause-refused c =
    (stays_self c.args.self.now, λ w h. c.if-not-may_leave.ensures.not w c.args.worker h)

pub settled_run-requires-clause-stands : goal.settled_run-requires-clause-stands
settled_run-requires-clause-stands c =
    let old = c.args.self.now in
    let m = c.if-not-may_leave.ensures.may in
    let hs : rWorld = record old { hands = c.reserve.new.self } in
    roomy_stands old c.requires.job c.args.path.now m hs c.reserve.ensures.keys.2

pub settled_run-requires-clause-may : goal.settled_run-requires-clause-may
settled_run-requires-clause-may c =
    let old = c.args.self.now in
    let m = c.if-not-may_leave.ensures.may in
    let hs : rWorld = record old { hands = c.reserve.new.self } in
    may_go old c.requires.job c.args.path.now m hs c.reserve.ensures.keys.2 c.requires.world c.requires.shows

pub returns-in_err-run-clause-refused : goal.returns-in_err-run-clause-refused
returns-in_err-run-clause-refused c =
    let old = c.args.self.now in
    let path = c.args.path.now in
    let m = c.if-not-may_leave.ensures.may in
    let hs : rWorld = record old { hands = c.reserve.new.self } in
    err_passed c.from_residual-in_err-run.result c.in_err-run.field-0.0 (Refuses (Resume c.args.worker path.turns.items None) old hs)
    c.from_residual-in_err-run.ensures.1
    (subst (Refuses (Resume c.args.worker path.turns.items None) old hs) (sym c.in_err-run.ensures.refused)
    (roomy_stays old c.requires.job path m hs c.reserve.ensures.keys.2))

pub drop_results-requires : goal.drop_results-requires
drop_results-requires c =
    let old = c.args.self.now in
    let m = c.if-not-may_leave.ensures.may in
    let hs : rWorld = record old { hands = c.reserve.new.self } in
    record { stands = roomy_stands old c.requires.job c.args.path.now m hs c.reserve.ensures.keys.2 }

pub returns-clause-resumed : goal.returns-clause-resumed
returns-clause-resumed c =
    let old = c.args.self.now in
    let path = c.args.path.now in
    let m = c.if-not-may_leave.ensures.may in
    let hs : rWorld = record old { hands = c.reserve.new.self } in
    let same_hands = c.reserve.ensures.keys.2 in
    let at = roomy_stands old c.requires.job path m hs same_hands in
    let run = c.in_ok-run.run' in
    let gone = c.in_ok-run.ensures.goes at in
    let r2 = c.drop_results.new.self in
    let r3 = c.go_behind.new.self in
    let others2 = c.drop_results.ensures.others in
    let taken = c.drop_results.ensures.taken at in
    let there = same_at old c.requires.job path m hs same_hands r2 others2 taken in
    let last : rWorld = record r3 { hands = c.insert.new.self } in
    resumed old c.requires.job path m hs same_hands r2 others2 taken gone.results.items
    (λ b h. results_of m.at.book.results gone.results b gone.kept h)
    r3 c.go_behind.ensures.others c.args.worker (sym c.contains.ensures ∙ c.if-contains.false)
    (behind_by hs path at run gone c.args.worker r2 r3 (c.go_behind.ensures.behind m.at.its there)) last c.in_ok-insert.ensures.updates.0
