use Rattle.std.proofs.Common.{◌≤◌, ◌∙◌, sym, ap, subst, Some}
use Rattle.std.specs.Prelude.{is_some, if◌then◌else◌}
use Rattle.event_worlds.specs.Events.{Spawns}
use Rattle.types.specs.Translation.{is_path}
use Rattle.event_worlds.specs.Shown.{Refuses}
use Rattle.event_worlds.specs.declared.error.EventError.TheVariants.{NoMemory}
use Rattle.event_worlds.specs.declared.job.WeightedJob.{WeightedJob}
use Rattle.event_worlds.specs.declared.world.World.{World as rWorld}
use Rattle.event_worlds.proofs.InHand.{err_passed, spawns, spawns_not}
use Rattle.event_worlds.proofs.Staying.{stays_on, stays_tasks}
use Rattle.event_worlds.proofs.world.World.spawn.Goals as goal

pub returns-in_err-reserve-clause-refused : goal.returns-in_err-reserve-clause-refused
returns-in_err-reserve-clause-refused c =
    let mid : rWorld = c.look_at.new.self in
    err_passed c.from_residual-in_err-reserve.result NoMemory _ c.from_residual-in_err-reserve.ensures.1
    (stays_on c.args.self.now mid _ c.look_at.ensures.stays (stays_tasks mid c.reserve.new.self c.reserve.ensures.entries.2))

pub returns-in_err-child-clause-refused : goal.returns-in_err-child-clause-refused
returns-in_err-child-clause-refused c =
    let old : rWorld = c.args.self.now in
    let mid : rWorld = c.look_at.new.self in
    let path = c.args.path.now in
    let k = c.in-Some.task.now in
    let new = c.spawn.new.self in
    let next : rWorld = record mid { tasks = c.get_mut.follows.lender new } in
    let job = ap (λ (r : rWorld). r.job) c.look_at.ensures.others in
    err_passed c.from_residual-in_err-child.result c.in_err-child.field-0.0 (Refuses (Spawns path.turns.items) old next)
    c.from_residual-in_err-child.ensures.1
    (spawns_not old mid path c.in_ok-worker.worker c.in_ok-worker.ensures.ready job c.look_at.ensures.stays
    (subst (λ (j : WeightedJob). 1 ≤ j.w0) (sym job) c.requires.job.least) k
    (sym (c.reserve.ensures.entries.2 path) ∙ sym c.in-Some.ensures.value) new c.in_err-child.ensures.same next
    (λ q. ((c.get_mut.follows.holds new).3 (ap is_some (sym c.in-Some.ensures.value))).0 q
    ∙ ap (λ o. if is_path path q then Some new else o) (c.reserve.ensures.entries.2 q))
    c.in_err-child.field-0.0 c.in_err-child.ensures.light)

pub returns-clause-spawned : goal.returns-clause-spawned
returns-clause-spawned c =
    let old : rWorld = c.args.self.now in
    let mid : rWorld = c.look_at.new.self in
    let path = c.args.path.now in
    let k = c.in-Some.task.now in
    let new = c.spawn.new.self in
    let child = c.in_ok-child.begun in
    let called = c.in_ok-child.child in
    let next : rWorld = record mid { tasks = c.insert.new.self } in
    let job = ap (λ (r : rWorld). r.job) c.look_at.ensures.others in
    spawns old mid path c.in_ok-worker.worker c.in_ok-worker.ensures.ready job c.look_at.ensures.stays
    (subst (λ (j : WeightedJob). 1 ≤ j.w0) (sym job) c.requires.job.least) k
    (sym (c.reserve.ensures.entries.2 path) ∙ sym c.in-Some.ensures.value) new child called c.in_ok-child.ensures.spawned next
    (λ q. c.in_ok-insert.ensures.updates.0 q
    ∙ ap (λ o. if is_path called q then Some child else o)
    (((c.get_mut.follows.holds new).3 (ap is_some (sym c.in-Some.ensures.value))).0 q
    ∙ ap (λ o. if is_path path q then Some new else o) (c.reserve.ensures.entries.2 q)))
