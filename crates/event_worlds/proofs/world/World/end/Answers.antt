use Rattle.std.proofs.Common.{◌∙◌, ◌∷◌, [], sym, subst}
use Rattle.task_run.specs.Results.{TaskResult}
use Rattle.event_worlds.specs.Ending.{GivesBack, ScopeBecomes}
use Rattle.event_worlds.specs.Events.{Ends}
use Rattle.event_worlds.specs.Shown.{Refuses}
use Rattle.event_worlds.specs.declared.error.EventError.TheVariants.{NoMemory}
use Rattle.event_worlds.specs.declared.world.World.{World as rWorld}
use Rattle.event_worlds.proofs.AtEnds.{end_done, end_refused, end_roomless, end_unseen, has_made, seen_by, stands_there}
use Rattle.event_worlds.proofs.InHand.{err_passed}
use Rattle.event_worlds.proofs.world.World.end.Goals as goal

pub returns-in_err-worker-clause-refused : goal.returns-in_err-worker-clause-refused
returns-in_err-worker-clause-refused c =
    end_unseen c.requires c.look_at.ensures.stays c.from_residual.result c.args.path.now c.in_err-worker.field-0.0
    c.from_residual.ensures.1 c.in_err-worker.ensures.nowhere

pub returns-then-not-has_ended-clause-refused : goal.returns-then-not-has_ended-clause-refused
returns-then-not-has_ended-clause-refused c =
    end_refused c.requires c.look_at.ensures.stays c.in_ok-worker.ensures.ready c.has_ended.ensures c.if-not-has_ended.true

pub made-requires : goal.made-requires
made-requires c =
    let ready = c.in_ok-worker.ensures.ready in
    let made = has_made c.args.path.now.turns.items ready.task.doing
    (sym (c.has_ended.ensures ready.task ready.at) ∙ c.if-not-has_ended.false) in
    record { its = ready.task; at = ready.at; made = made.0; is = made.1 }

pub returns-in_err-made-clause-refused : goal.returns-in_err-made-clause-refused
returns-in_err-made-clause-refused c =
    let old = c.args.self.now in
    err_passed c.from_residual-in_err-made.result NoMemory (Refuses (Ends c.args.path.now.turns.items) old c.look_at.new.self)
    c.from_residual-in_err-made.ensures.1 c.look_at.ensures.stays

pub hand_on-requires : goal.hand_on-requires
hand_on-requires c =
    let there = stands_there c.requires c.look_at.ensures.stays c.in_ok-worker.ensures.ready in
    record { stands = there.0; late = there.1 }

pub returns-in_err-hand_on-clause-refused : goal.returns-in_err-hand_on-clause-refused
returns-in_err-hand_on-clause-refused c =
    let old = c.args.self.now in
    let path = c.args.path.now in
    let l = c.look_at.ensures in
    let seen = seen_by c.look_at.new.self path c.in_ok-worker.worker c.in_ok-worker.ensures.ready in
    let a = (stands_there c.requires l.stays c.in_ok-worker.ensures.ready).0 in
    let refused = c.in_err-hand_on.ensures.refused in
    err_passed c.from_residual-in_err-hand_on.result c.in_err-hand_on.field-0.0 (Refuses (Ends path.turns.items) old c.hand_on.new.self)
    c.from_residual-in_err-hand_on.ensures.1
    (subst (Refuses (Ends path.turns.items) old c.hand_on.new.self) (sym refused.0)
    (end_roomless old c.requires.job path c.look_at.new.self l.others l.stays c.in_ok-worker.worker seen a
    c.hand_on.new.self c.hand_on.ensures.others (refused.1 a)))

pub returns-clause-ended : goal.returns-clause-ended
returns-clause-ended c =
    let old = c.args.self.now in
    let path = c.args.path.now in
    let l = c.look_at.ensures in
    let r1 = c.look_at.new.self in
    let seen = seen_by r1 path c.in_ok-worker.worker c.in_ok-worker.ensures.ready in
    let has = sym (c.has_ended.ensures seen.its seen.at) ∙ c.if-not-has_ended.false in
    let made = has_made path.turns.items seen.its.doing has in
    let same = c.in_ok-made.ensures seen.its made.0 seen.at made.1 in
    let a = (stands_there c.requires l.stays c.in_ok-worker.ensures.ready).0 in
    let r3 = c.hand_on.new.self in
    let last : rWorld = record r3 { tasks = c.remove.new.self; hands = c.remove-2.new.self } in
    end_done old c.requires.job path r1 l.others l.stays c.in_ok-worker.worker seen a r3
    c.hand_on.ensures.others made.0 made.1 has
    (subst (λ (x : TaskResult). ScopeBecomes r1 r3 a.inner.scope (GivesBack a.inner.weight (x ∷ []) a.book)) same
    (c.in_ok-hand_on.ensures.given a)) last c.remove.ensures.updates.0 c.remove-2.ensures.updates.0
