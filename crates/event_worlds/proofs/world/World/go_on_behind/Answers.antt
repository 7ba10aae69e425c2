use Rattle.std.proofs.Common.{◌∙◌, None, ap, refl, subst, sym}
use Rattle.std.specs.HashSet.{contains}
use Rattle.std.specs.Prelude.{if◌then◌else◌, nat_eq, true}
use Rattle.event_worlds.specs.Events.{Resume}
use Rattle.event_worlds.specs.Shown.{Becomes}
use Rattle.event_worlds.specs.declared.world.World.{World as rWorld}
use Rattle.event_worlds.proofs.Behind.{may_go, results_of, resumed}
use Rattle.event_worlds.proofs.Judging.{err_any, resume_legal}
use Rattle.event_worlds.proofs.world.World.go_on_behind.Goals as goal

pub returns-then-not-may_leave-clause-refused : goal.returns-then-not-may_leave-clause-refused
returns-then-not-may_leave-clause-refused c = λ is w h. c.if-not-may_leave.ensures.not w c.args.worker h

pub leave-requires-clause-stands : goal.leave-requires-clause-stands
leave-requires-clause-stands c = c.if-not-may_leave.ensures.may.at

pub leave-requires-clause-may : goal.leave-requires-clause-may
leave-requires-clause-may c =
    let old = c.args.self.now in
    may_go old c.requires.job c.args.path.now c.if-not-may_leave.ensures.may old (λ v. refl) c.requires.world c.requires.shows

pub returns-clause-resumed : goal.returns-clause-resumed
returns-clause-resumed c =
    let old : rWorld = c.args.self.now in
    let path = c.args.path.now in
    let m = c.if-not-may_leave.ensures.may in
    let left = c.in_ok-leave.ensures.left m.at in
    let r2 : rWorld = record old { scopes = c.leave.new.self.scopes } in
    let r3 : rWorld = record old { scopes = c.leave.new.self.scopes; tasks = c.leave.new.self.tasks } in
    let last : rWorld = record r3 { hands = c.insert.new.self } in
    let others = c.in_ok-leave.ensures.others in
    subst (λ (r : rWorld). Becomes (Resume c.args.worker path.turns.items None) old (record r { hands = c.insert.new.self })) (sym others)
    (resumed old c.requires.job path m old (λ v. refl) r2 refl
    (record { to = left.scope.to; fits = left.scope.fits; each = left.scope.each }) left.results.items
    (λ b h. results_of m.at.book.results left.results b left.kept h)
    r3 refl c.args.worker (sym c.contains.ensures ∙ c.if-contains.false)
    (record { to = left.task.to; fits = left.task.fits; each = left.task.each }) last
    (λ v. c.in_ok-insert.ensures.updates.0 v
    ∙ ap (λ (r : rWorld). if nat_eq c.args.worker v then true else contains nat_eq r.hands v) others))

pub returns-in_err-leave-clause-memory : goal.returns-in_err-leave-clause-memory
returns-in_err-leave-clause-memory c =
    err_any c.from_residual.result
    (λ x is. resume_legal c.args.self.now c.args.path.now c.args.worker c.if-not-may_leave.ensures.may
    (sym c.contains.ensures ∙ c.if-contains.false))

pub returns-in_err-insert-clause-memory : goal.returns-in_err-insert-clause-memory
returns-in_err-insert-clause-memory c =
    err_any c.from_residual-in_err-insert.result
    (λ x is. resume_legal c.args.self.now c.args.path.now c.args.worker c.if-not-may_leave.ensures.may
    (sym c.contains.ensures ∙ c.if-contains.false))
