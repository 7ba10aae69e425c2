use Rattle.std.proofs.Common.{◌∙◌, sym, ap, Some, arith}
use Rattle.std.specs.Prelude.{is_some, if◌then◌else◌}
use Rattle.event_worlds.specs.Events.{Opens}
use Rattle.event_worlds.specs.Shown.{Refuses, is_scope}
use Rattle.event_worlds.specs.declared.error.EventError.TheVariants.{NoMemory}
use Rattle.event_worlds.specs.declared.world.World.{World as rWorld}
use Rattle.event_worlds.proofs.InHand.{err_passed, opened_few, opens, opens_not}
use Rattle.event_worlds.proofs.Staying.{stays_on, stays_scopes, stays_shown}
use Rattle.event_worlds.proofs.world.World.open.Goals as goal

pub returns-in_err-reserve-clause-refused : goal.returns-in_err-reserve-clause-refused
returns-in_err-reserve-clause-refused c =
    let mid : rWorld = c.look_at.new.self in
    err_passed c.from_residual-in_err-reserve.result NoMemory _ c.from_residual-in_err-reserve.ensures.1
    (stays_on c.args.self.now mid _ c.look_at.ensures.stays (stays_scopes mid c.reserve.new.self c.reserve.ensures.entries.2))

pub open-requires : goal.open-requires
open-requires c = λ r is.
    let old : rWorld = c.args.self.now in
    let mid : rWorld = c.look_at.new.self in
    let few = opened_few old mid c.args.path.now c.in_ok-look_at.field-0 c.in_ok-look_at.ensures.ready
    (ap (λ (r : rWorld). r.job) c.look_at.ensures.others) c.look_at.ensures.stays c.in-Some.task.now
    (sym c.in-Some.ensures.value) c.requires.world (stays_shown old mid c.look_at.ensures.stays c.requires.world c.requires.shows) r is in
    omega (arith, few)

pub returns-in_err-scope-clause-refused : goal.returns-in_err-scope-clause-refused
returns-in_err-scope-clause-refused c =
    let old : rWorld = c.args.self.now in
    let mid : rWorld = c.look_at.new.self in
    let path = c.args.path.now in
    let new = c.open.new.self in
    let next : rWorld = record mid { tasks = c.get_mut.follows.lender new; scopes = c.reserve.new.self } in
    err_passed c.from_residual-in_err-scope.result c.in_err-scope.field-0.0 (Refuses (Opens path.turns.items) old next)
    c.from_residual-in_err-scope.ensures.1
    (opens_not old mid path c.in_ok-look_at.field-0 c.in_ok-look_at.ensures.ready
    (ap (λ (r : rWorld). r.job) c.look_at.ensures.others) c.look_at.ensures.stays c.in-Some.task.now
    (sym c.in-Some.ensures.value) new c.in_err-scope.ensures.same next
    ((c.get_mut.follows.holds new).3 (ap is_some (sym c.in-Some.ensures.value))).0 c.reserve.ensures.entries.2
    c.in_err-scope.field-0.0 c.in_err-scope.ensures.other)

pub returns-clause-opened : goal.returns-clause-opened
returns-clause-opened c =
    let mid : rWorld = c.look_at.new.self in
    let new = c.open.new.self in
    let id = c.in_ok-scope.scope in
    let book = c.new.result in
    let next : rWorld = record mid { tasks = c.get_mut.follows.lender new; scopes = c.insert.new.self } in
    opens c.args.self.now mid c.args.path.now c.in_ok-look_at.field-0 c.in_ok-look_at.ensures.ready
    (ap (λ (r : rWorld). r.job) c.look_at.ensures.others) c.look_at.ensures.stays c.in-Some.task.now
    (sym c.in-Some.ensures.value) new id c.in_ok-scope.ensures.opened book c.new.ensures next
    ((c.get_mut.follows.holds new).3 (ap is_some (sym c.in-Some.ensures.value))).0
    (λ q. c.in_ok-insert.ensures.updates.0 q ∙ ap (λ o. if is_scope id q then Some book else o) (c.reserve.ensures.entries.2 q))
