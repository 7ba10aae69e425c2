use Rattle.crossbeam_deque.specs.Handles.{worker_view}
use Rattle.worker_threads.proofs.DequeSteps.{learns}
use Rattle.worker_threads.proofs.deque_ends.Deque.len.Goals as goal

pub len_as-requires : goal.len_as-requires
len_as-requires g c = rw c.args.self.now.first (learns (worker_view c.args.self.now.worker))
