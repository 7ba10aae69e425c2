use Rattle.crossbeam_deque.specs.Handles.{worker_view}
use Rattle.worker_threads.proofs.DequeSteps.{finds}
use Rattle.worker_threads.proofs.deque_ends.Deque.pop.Goals as goal

pub pop_as-requires-clause-empty : goal.pop_as-requires-clause-empty
pop_as-requires-clause-empty g c = rw c.args.self.now.first (finds (worker_view c.args.self.now.worker))
