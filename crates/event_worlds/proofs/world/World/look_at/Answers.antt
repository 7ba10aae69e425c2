use Rattle.std.proofs.Common.{refl, sym, ap}
use Rattle.std.specs.Prelude.{is_some}
use Rattle.event_worlds.proofs.InHand.{ready_by}
use Rattle.event_worlds.proofs.Staying.{stays_put}
use Rattle.event_worlds.proofs.Tables.{task_there}
use Rattle.event_worlds.proofs.world.World.look_at.Goals as goal

pub in_hand-requires-clause-task : goal.in_hand-requires-clause-task
in_hand-requires-clause-task c =
    task_there c.args.self.now.job.job c.in-Some.task.now _ _ (c.requires.shows.tasks c.args.path.now) (sym c.in-Some.ensures.value)

pub returns-in-Some-clause-stays : goal.returns-in-Some-clause-stays
returns-in-Some-clause-stays c =
    let r = c.args.self.now in
    let new = c.in_hand.new.self in
    stays_put r c.args.path.now c.in-Some.task.now new (c.get_mut.follows.lender new) r.scopes (sym c.in-Some.ensures.value)
    c.in_hand.ensures.stays ((c.get_mut.follows.holds new).3 (ap is_some (sym c.in-Some.ensures.value))).0 (λ q. refl)

pub returns-in-Some-clause-ready : goal.returns-in-Some-clause-ready
returns-in-Some-clause-ready c =
    let r = c.args.self.now in
    let new = c.in_hand.new.self in
    ready_by (record r { tasks = c.get_mut.follows.lender new }) c.args.path.now new c.in_hand.result
    ((c.get_mut.follows.holds new).3 (ap is_some (sym c.in-Some.ensures.value))).1 c.in_hand.ensures.hand c.in_hand.ensures.known
