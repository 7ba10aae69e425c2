use Rattle.crossbeam_deque.specs.Handles.{view}
use Rattle.worker_threads.proofs.DequeSteps.{takes_batch}
use Rattle.worker_threads.proofs.deque_ends.Thief.steal.Goals as goal

pub steal_batch_and_pop_as-stolen-requires-clause-takes : goal.steal_batch_and_pop_as-stolen-requires-clause-takes
steal_batch_and_pop_as-stolen-requires-clause-takes g c = takes_batch c.args.self.now.hand.id (view c.args.self.now.hand) 32
