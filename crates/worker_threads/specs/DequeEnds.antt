-- What contracts say of a deque and of a thief.
use Rattle.std.specs.Prelude.{List}
use Rattle.crossbeam_deque.specs.Handles.{view, worker_view}
use Rattle.worker_threads.specs.declared.deque_ends.Deque.{Deque}
use Rattle.worker_threads.specs.declared.deque_ends.Thief.{Thief}

module _ {T : Type 0} where
  -- the tasks that were put into the deque, and those that its worker took out
  abbrev pub put_into : Deque T → List T
  put_into d = (worker_view d.worker).put

  abbrev pub taken_from : Deque T → List T
  taken_from d = (worker_view d.worker).taken

  -- the tasks that the thief took out
  abbrev pub taken_by : Thief T → List T
  taken_by t = (view t.hand).taken
